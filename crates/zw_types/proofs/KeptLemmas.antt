-- What is known of the types of a table from what is known of their parts: it is right, and where nothing more comes to be known, it is
-- whole.
use Rattle.std.specs.Prelude.{◌≡◌, ◌≢◌, refl, ℕ, zero, suc, ◌+◌, ◌<◌, ◌^◌, nat_eq, nat_le, if◌then◌else◌, Bool, true, false, List, [], ◌∷◌, ◌++◌, length, slice_set, slice_get, slice_index_or, AllPairs, Option, Some, None, MatchOption, option_and_then}
use Rattle.std.specs.Option.{option_map}
use Rattle.std.proofs.Common.{sym, ◌∙◌, ap, subst, arith, inl, inr}
use Rattle.std.proofs.Math.Nat.{min-le_right}
use Rattle.std.proofs.lemmas.Option.{slice_get_within, slice_get-get_or, get_or_from_slice_get}
use Rattle.zw_types.specs.declared.layout.Layout.{Layout}
use Rattle.zw_types.specs.TypeTrees as tree
use Rattle.zw_types.specs.TypeTrees.{TypeTree, FieldTree, ShapeTree, ValueOption, ValueTrees}
use Rattle.zw_types.specs.SameTypes.{place_of}
use Rattle.zw_types.specs.Tables.{TypeTable, HasShape}
use Rattle.zw_types.specs.Sizes as sizes
use Rattle.zw_types.specs.Sizes.{integer_layout, no_bytes, byte_layout, code_layout, pointer_layout, slice_layout, followed, joined, joined_all, rounded, element_count, array_layout, optional_layout, error_union_layout, struct_layout, union_layout, tagged_layout, layouts_and, hidden_tag, bytes_for, is_pointer, is_comptime_only, unless_comptime, HasLayout, HaveLayouts}
use Rattle.zw_types.specs.KeptLayouts.{bounded, IsAlignment, IsBounded, IsKept, Kept, known_in, kept_array, kept_optional, kept_error_union, kept_rounded, kept_joined, known_fields, known_struct, known_enum, known_tag, tagged, known_union, known_from_parts, AreRight, IsClosed, AreKept}
use Rattle.zw_types.proofs.BoundedLemmas.{IsAligned, greater_alignment, kept_array_cut, kept_optional_cut, kept_error_union_cut, kept_rounded_cut, joined_some, kept_joined_cut, joined_aligned, joined_some_aligned}
use Rattle.zw_types.proofs.Each.{Each}
use Rattle.std.proofs.Math.Decide.{ℕ_discrete}
use Rattle.zw_types.proofs.ListLemmas.{one_place, slice_get_push_cases, slice_get_set, slice_get_set_other}
use Rattle.zw_types.proofs.Forms.{place_of-at}

-- ---- alignments

integer_aligned : (bits : ℕ) → IsAlignment (integer_layout bits).align
integer_aligned bits = first (nat_eq bits 0)
  where
    first : (b : Bool) → IsAlignment (if b then no_bytes else record { size = bytes_for bits; align = bytes_for bits }).align
    first true = inl refl
    first false = second (nat_le bits 8)
      where
        fourth : (b : Bool) → IsAlignment (if b then 4 else 8)
        fourth true = inr (inr (inl refl))
        fourth false = inr (inr (inr refl))

        third : (b : Bool) → IsAlignment (if b then 2 else (if nat_le bits 32 then 4 else 8))
        third true = inr (inl refl)
        third false = fourth (nat_le bits 32)

        second : (b : Bool) → IsAlignment (if b then 1 else (if nat_le bits 16 then 2 else (if nat_le bits 32 then 4 else 8)))
        second true = inl refl
        second false = third (nat_le bits 16)

hidden_aligned : (count : ℕ) → IsAlignment (hidden_tag count).align
hidden_aligned count = first (nat_le count 1)
  where
    fourth : (b : Bool) → IsAlignment (if b then integer_layout 32 else integer_layout 64).align
    fourth true = inr (inr (inl refl))
    fourth false = inr (inr (inr refl))

    third : (b : Bool) → IsAlignment (if b then integer_layout 16 else (if nat_le count (2 ^ 32) then integer_layout 32 else integer_layout 64)).align
    third true = inr (inl refl)
    third false = fourth (nat_le count (2 ^ 32))

    second : (b : Bool) → IsAlignment (if b then integer_layout 8 else (if nat_le count (2 ^ 16) then integer_layout 16 else (if nat_le count (2 ^ 32) then integer_layout 32 else integer_layout 64))).align
    second true = inl refl
    second false = third (nat_le count (2 ^ 16))

    first : (b : Bool) → IsAlignment (if b then no_bytes else (if nat_le count (2 ^ 8) then integer_layout 8 else (if nat_le count (2 ^ 16) then integer_layout 16 else (if nat_le count (2 ^ 32) then integer_layout 32 else integer_layout 64)))).align
    first true = inl refl
    first false = second (nat_le count (2 ^ 8))

-- few bytes are no more than are kept
abbrev few : ℕ → Layout
few n = record { size = n; align = n }

integer_bounded : (bits : ℕ) → integer_layout bits ≡ bounded (integer_layout bits)
integer_bounded bits = first (nat_eq bits 0)
  where
    fourth : (b : Bool) → few (if b then 4 else 8) ≡ bounded (few (if b then 4 else 8))
    fourth true = refl
    fourth false = refl

    third : (b : Bool) → few (if b then 2 else (if nat_le bits 32 then 4 else 8)) ≡ bounded (few (if b then 2 else (if nat_le bits 32 then 4 else 8)))
    third true = refl
    third false = fourth (nat_le bits 32)

    second : (b : Bool) → few (if b then 1 else (if nat_le bits 16 then 2 else (if nat_le bits 32 then 4 else 8))) ≡ bounded (few (if b then 1 else (if nat_le bits 16 then 2 else (if nat_le bits 32 then 4 else 8))))
    second true = refl
    second false = third (nat_le bits 16)

    first : (b : Bool) → (if b then no_bytes else few (bytes_for bits)) ≡ bounded (if b then no_bytes else few (bytes_for bits))
    first true = refl
    first false = second (nat_le bits 8)

-- a tag for more than 2^16 fields
abbrev wide_tag : Bool → Layout
wide_tag b = if b then integer_layout 32 else integer_layout 64

hidden_bounded : (count : ℕ) → hidden_tag count ≡ bounded (hidden_tag count)
hidden_bounded count = first (nat_le count 1)
  where
    fourth : (b : Bool) → wide_tag b ≡ bounded (wide_tag b)
    fourth true = refl
    fourth false = refl

    third : (b : Bool) → (if b then integer_layout 16 else wide_tag (nat_le count (2 ^ 32))) ≡ bounded (if b then integer_layout 16 else wide_tag (nat_le count (2 ^ 32)))
    third true = refl
    third false = fourth (nat_le count (2 ^ 32))

    second : (b : Bool) → (if b then integer_layout 8 else (if nat_le count (2 ^ 16) then integer_layout 16 else wide_tag (nat_le count (2 ^ 32)))) ≡ bounded (if b then integer_layout 8 else (if nat_le count (2 ^ 16) then integer_layout 16 else wide_tag (nat_le count (2 ^ 32))))
    second true = refl
    second false = third (nat_le count (2 ^ 16))

    first : (b : Bool) → (if b then no_bytes else (if nat_le count (2 ^ 8) then integer_layout 8 else (if nat_le count (2 ^ 16) then integer_layout 16 else wide_tag (nat_le count (2 ^ 32))))) ≡ bounded (if b then no_bytes else (if nat_le count (2 ^ 8) then integer_layout 8 else (if nat_le count (2 ^ 16) then integer_layout 16 else wide_tag (nat_le count (2 ^ 32)))))
    first true = refl
    first false = second (nat_le count (2 ^ 8))

unless_aligned : (of : TypeTree) (l : Layout) → IsAlignment l.align → IsAligned (unless_comptime of l)
unless_aligned of l h = at (is_comptime_only of)
  where
    at : (b : Bool) → IsAligned (if b then None else Some l)
    at true = tt
    at false = h

-- the layouts of all fields, where each has one
abbrev AreAligned : Option (List Layout) → Type 0
AreAligned ls = MatchOption ls (Unit {0}) (Each (λ (l : Layout). IsAlignment l.align))

and_aligned : (l : Option Layout) (ls : Option (List Layout)) → IsAligned l → AreAligned ls → AreAligned (layouts_and l ls)
and_aligned None ls h k = tt
and_aligned (Some l) None h k = tt
and_aligned (Some l) (Some ls) h k = (h, k)

pub joined_all_aligned : (over : Bool) (before : Layout) (ls : List Layout) → IsAlignment before.align → Each (λ (l : Layout). IsAlignment l.align) ls → IsAlignment (joined_all over before ls).align
joined_all_aligned over before [] h e = h
joined_all_aligned over before (l ∷ ls) h e = joined_all_aligned over (joined over before l) ls (joined_aligned over before l h e.0) e.1

one : IsAlignment 1
one = inl refl

mapped_aligned : (f : Layout → Layout) → ((l : Layout) → IsAlignment l.align → IsAlignment (f l).align) → (l : Option Layout) → IsAligned l → IsAligned (option_map f l)
mapped_aligned f each None h = tt
mapped_aligned f each (Some l) h = each l h

fields_aligned : (f : List Layout → Layout) → ((ls : List Layout) → Each (λ (l : Layout). IsAlignment l.align) ls → IsAlignment (f ls).align) → (ls : Option (List Layout)) → AreAligned ls → IsAligned (option_map f ls)
fields_aligned f each None h = tt
fields_aligned f each (Some ls) h = each ls h

union_aligned : (tag : Layout) (ls : List Layout) → IsAlignment tag.align → Each (λ (l : Layout). IsAlignment l.align) ls → IsAlignment (union_layout tag ls).align
union_aligned tag ls h e = greater_alignment (joined_all true no_bytes ls).align tag.align (joined_all_aligned true no_bytes ls one e) h

tagged_aligned : (tag : Option Layout) (ls : Option (List Layout)) → IsAligned tag → AreAligned ls → IsAligned (tagged_layout tag ls)
tagged_aligned None ls h k = tt
tagged_aligned (Some tag) None h k = tt
tagged_aligned (Some tag) (Some ls) h k = union_aligned tag ls h k

module _ (table : TypeTable) where
  mutual
    pub HasLayout-aligned : (ty : TypeTree) (l : Option Layout) → HasLayout table ty l → IsAligned l
    HasLayout-aligned ty l (sizes.integer signed bits size) = integer_aligned bits
    HasLayout-aligned ty l sizes.truth = inl refl
    HasLayout-aligned ty l sizes.void = inl refl
    HasLayout-aligned ty l (sizes.error_set names inferred) = inr (inl refl)
    HasLayout-aligned ty l sizes.any_error = inr (inl refl)
    HasLayout-aligned ty l sizes.comptime_int = tt
    HasLayout-aligned ty l sizes.no_return = tt
    HasLayout-aligned ty l sizes.type_type = tt
    HasLayout-aligned ty l sizes.null_type = tt
    HasLayout-aligned ty l sizes.undefined_type = tt
    HasLayout-aligned ty l sizes.enum_literal = tt
    HasLayout-aligned ty l (sizes.func params result comptime outside) = tt
    HasLayout-aligned ty l (sizes.pointer many constant of) = unless_aligned of pointer_layout (inr (inr (inl refl)))
    HasLayout-aligned ty l (sizes.slice constant of sentinel) = unless_aligned of slice_layout (inr (inr (inl refl)))
    HasLayout-aligned ty l (sizes.array len of sentinel m h) = mapped_aligned (array_layout (element_count len sentinel)) (λ l k. k) m (HasLayout-aligned of m h)
    HasLayout-aligned ty l (sizes.optional_pointer of m e h) = HasLayout-aligned of m h
    HasLayout-aligned ty l (sizes.optional of m e h) = mapped_aligned optional_layout (λ l k. greater_alignment l.align 1 k one) m (HasLayout-aligned of m h)
    HasLayout-aligned ty l (sizes.error_union set payload m h) = mapped_aligned error_union_layout (λ l k. greater_alignment l.align 2 k (inr (inl refl))) m (HasLayout-aligned payload m h)
    HasLayout-aligned ty l (sizes.struct file node captures shape ls s h) = fields_aligned struct_layout (λ ls e. joined_all_aligned false no_bytes ls one e) ls (HaveLayouts-aligned shape.fields ls h)
    HasLayout-aligned ty l (sizes.enum file node captures shape tag m s e h) = HasLayout-aligned tag m h
    HasLayout-aligned ty l (sizes.bare_union file node captures shape ls s e h) = fields_aligned (union_layout (hidden_tag (length shape.fields))) (λ ls k. union_aligned (hidden_tag (length shape.fields)) ls (hidden_aligned (length shape.fields)) k) ls (HaveLayouts-aligned shape.fields ls h)
    HasLayout-aligned ty l (sizes.tagged_union file node captures shape tag m ls s e h k) = tagged_aligned m ls (HasLayout-aligned tag m h) (HaveLayouts-aligned shape.fields ls k)

    HaveLayouts-aligned : (fields : List FieldTree) (ls : Option (List Layout)) → HaveLayouts table fields ls → AreAligned ls
    HaveLayouts-aligned fields ls sizes.no_fields = tt
    HaveLayouts-aligned fields ls (sizes.field_and field more l ls' h k) = and_aligned l ls' (HasLayout-aligned field.ty l h) (HaveLayouts-aligned more ls' k)

-- ---- what is known of a type with a number

same_place : (ts : List TypeTree) → AllPairs (λ a b. a ≢ b) ts → (k : ℕ) → k < length ts → place_of (slice_index_or ts k tree.VoidType) ts ≡ k
same_place ts once k within =
    let at = place_of-at ts k within in
    one_place ts tree.VoidType once (place_of (slice_index_or ts k tree.VoidType) ts) k at.0 within at.1

pub known_at : (ts : List TypeTree) (kept : List Kept) → AllPairs (λ a b. a ≢ b) ts → (k : ℕ) → k < length ts → known_in ts kept (slice_index_or ts k tree.VoidType) ≡ slice_index_or kept k None
known_at ts kept once k within = ap (λ n. slice_index_or kept n None) (same_place ts once k within)

-- what is kept of a type is bounded
pub bounded_kept : (table : TypeTable) (kept : List Kept) → AreRight table kept → (k : ℕ) → k < length kept → (o : Kept) → o ≡ slice_index_or kept k None → MatchOption o (Unit {0}) (λ l. MatchOption l (Unit {0}) IsBounded)
bounded_kept table kept right k within None e = tt
bounded_kept table kept right k within (Some l) e =
    let is = right k l (slice_get-get_or kept k None within ∙ ap Some (sym e)) in
    subst (λ (l : Option Layout). MatchOption l (Unit {0}) IsBounded) (sym is.2) (each is.0 (HasLayout-aligned table (slice_index_or table.trees k tree.VoidType) is.0 is.1))
  where
    each : (m : Option Layout) → IsAligned m → MatchOption (option_map bounded m) (Unit {0}) IsBounded
    each None h = tt
    each (Some m) h = (omega (arith, min-le_right m.size (2 ^ 127)), h)

-- ---- what comes of right parts is right

-- a type of the table
abbrev pub IsIn : TypeTable → TypeTree → Type 0
IsIn table ty = (k : ℕ) × (slice_get table.trees k ≡ Some ty)

-- the types that lie in a type, but for the fields of containers
abbrev pub parts_of : TypeTree → List TypeTree
parts_of (tree.ArrayType len of sentinel) = of ∷ []
parts_of (tree.OptionalType of) = of ∷ []
parts_of (tree.ErrorUnionType set payload) = payload ∷ []
parts_of _ = []

-- the types of a container's fields and tag
abbrev pub AreIn : TypeTable → ShapeTree → Type 0
AreIn table shape = Each (λ (field : FieldTree). IsIn table field.ty) shape.fields × MatchOption shape.tag (Unit {0}) (IsIn table)

abbrev pub PartsAreIn : TypeTable → Type 0
PartsAreIn table =
    ((ty : TypeTree) → IsIn table ty → Each (IsIn table) (parts_of ty))
    × ((k : ℕ) (shape : ShapeTree) → slice_get table.shapes k ≡ Some (Some shape) → AreIn table shape)

some_same : {X : Type 0} (x y : X) → Some x ≡ Some y → x ≡ y
some_same x y e = cc

mapped_some : {X Y : Type 0} (f : X → Y) (o : Option X) (y : Y) → option_map f o ≡ Some y → (x : X) × (o ≡ Some x) × (f x ≡ y)
mapped_some f None y e = cc
mapped_some f (Some x) y e = (x, refl, some_same (f x) y e)

chained_some : {X Y : Type 0} (f : X → Option Y) (o : Option X) (y : Y) → option_and_then f o ≡ Some y → (x : X) × (o ≡ Some x) × (f x ≡ Some y)
chained_some f None y e = cc
chained_some f (Some x) y e = (x, refl, e)

-- the layouts of more fields, where all have one
abbrev joined_more : Bool → Option Layout → Option (List Layout) → Option Layout
joined_more over (Some before) (Some ls) = Some (joined_all over before ls)
joined_more over _ _ = None

joined_first : (over : Bool) (before l : Option Layout) (ls : Option (List Layout)) → joined_more over (joined_some over before l) ls ≡ joined_more over before (layouts_and l ls)
joined_first over None None ls = refl
joined_first over None (Some l) None = refl
joined_first over None (Some l) (Some ls) = refl
joined_first over (Some before) None ls = refl
joined_first over (Some before) (Some l) None = refl
joined_first over (Some before) (Some l) (Some ls) = refl

joined_none : (over : Bool) (before : Option Layout) → joined_more over before (Some []) ≡ before
joined_none over None = refl
joined_none over (Some before) = refl

module _ (table : TypeTable) (known : TypeTree → Kept) (right : (ty : TypeTree) (l : Option Layout) → IsIn table ty → known ty ≡ Some l → IsKept table ty l) where
  fields_right : (over : Bool) (before : Option Layout) (fields : List FieldTree) → IsAligned before → Each (λ (field : FieldTree). IsIn table field.ty) fields → (r : Option Layout) → known_fields known over (option_map bounded before) fields ≡ Some r → (ls : Option (List Layout)) × HaveLayouts table fields ls × (r ≡ option_map bounded (joined_more over before ls))
  fields_right over before [] h each r e = (Some [], sizes.no_fields, sym (some_same (option_map bounded before) r e) ∙ sym (ap (option_map bounded) (joined_none over before)))
  fields_right over before (field ∷ fields) h each r e =
      let x = chained_some (λ l. known_fields known over (kept_joined over (option_map bounded before) l) fields) (known field.ty) r e in
      let is = right field.ty x.0 each.0 x.1 in
      let aligned = HasLayout-aligned table field.ty is.0 is.1 in
      let cut : kept_joined over (option_map bounded before) x.0 ≡ option_map bounded (joined_some over before is.0) =
      ap (kept_joined over (option_map bounded before)) is.2 ∙ kept_joined_cut over before is.0 aligned in
      let rest = fields_right over (joined_some over before is.0) fields (joined_some_aligned over before is.0 h aligned) each.1 r (sym (ap (λ b. known_fields known over b fields) cut) ∙ x.2) in (
        layouts_and is.0 rest.0,
        sizes.field_and field fields is.0 rest.0 is.1 rest.1,
        rest.2 ∙ ap (option_map bounded) (joined_first over before is.0 rest.0),
      )

  joined_more_aligned : (over : Bool) (fields : List FieldTree) (ls : Option (List Layout)) → HaveLayouts table fields ls → IsAligned (joined_more over (Some no_bytes) ls)
  joined_more_aligned over fields ls h = at ls (HaveLayouts-aligned table fields ls h)
    where
      at : (ls : Option (List Layout)) → AreAligned ls → IsAligned (joined_more over (Some no_bytes) ls)
      at None e = tt
      at (Some ls) e = joined_all_aligned over no_bytes ls one e

  struct_cut : (ls : Option (List Layout)) → option_map rounded (joined_more false (Some no_bytes) ls) ≡ option_map struct_layout ls
  struct_cut None = refl
  struct_cut (Some ls) = refl

  union_cut : (tag : Option Layout) (ls : Option (List Layout)) → option_map rounded (joined_some false (joined_more true (Some no_bytes) ls) tag) ≡ tagged_layout tag ls
  union_cut None None = refl
  union_cut None (Some ls) = refl
  union_cut (Some tag) None = refl
  union_cut (Some tag) (Some ls) = refl

  bare_cut : (tag : Layout) (ls : Option (List Layout)) → tagged_layout (Some tag) ls ≡ option_map (union_layout tag) ls
  bare_cut tag None = refl
  bare_cut tag (Some ls) = refl

  -- a container with these fields
  abbrev HasFields : TypeTree → Option ShapeTree → Type 0
  HasFields ty shape = MatchOption shape (Unit {0}) (λ s. HasShape table ty s × AreIn table s)

  struct_right : (file node : ℕ) (captures : ValueTrees) (shape : Option ShapeTree) → HasFields (tree.StructType file node captures) shape → (r : Option Layout) → known_struct known shape ≡ Some r → IsKept table (tree.StructType file node captures) r
  struct_right file node captures None h r e = cc
  struct_right file node captures (Some s) h r e =
      let x = mapped_some kept_rounded (known_fields known false (Some no_bytes) s.fields) r e in
      let is = fields_right false (Some no_bytes) s.fields one h.1.0 x.0 x.1 in (
        option_map struct_layout is.0,
        sizes.struct file node captures s is.0 h.0 is.1,
        sym x.2 ∙ ap kept_rounded is.2 ∙ kept_rounded_cut (joined_more false (Some no_bytes) is.0) (joined_more_aligned false s.fields is.0 is.1) ∙ ap (option_map bounded) (struct_cut is.0),
      )

  enum_right : (file node : ℕ) (captures : ValueTrees) (shape : Option ShapeTree) → HasFields (tree.EnumType file node captures) shape → (r : Option Layout) → known_enum known shape ≡ Some r → IsKept table (tree.EnumType file node captures) r
  enum_right file node captures None h r e = cc
  enum_right file node captures (Some s) h r e = at s.tag refl h.1.1 e
    where
      at : (tag : Option TypeTree) → s.tag ≡ tag → MatchOption tag (Unit {0}) (IsIn table) → option_and_then known tag ≡ Some r → IsKept table (tree.EnumType file node captures) r
      at None same within e = cc
      at (Some tag) same within e = let is = right tag r within e in (is.0, sizes.enum file node captures s tag is.0 h.0 same is.1, is.2)

  tagged_some : (fields tag : Kept) (r : Option Layout) → tagged known fields tag ≡ Some r → (a b : Option Layout) × (fields ≡ Some a) × (tag ≡ Some b) × (kept_rounded (kept_joined false a b) ≡ r)
  tagged_some (Some a) (Some b) r e = (a, b, refl, refl, some_same (kept_rounded (kept_joined false a b)) r e)
  tagged_some None tag r e = cc
  tagged_some (Some a) None r e = cc

  -- the tag and the fields of a union, put together
  union_is : (fields tag : Option Layout) → IsAligned fields → IsAligned tag → kept_rounded (kept_joined false (option_map bounded fields) (option_map bounded tag)) ≡ option_map bounded (option_map rounded (joined_some false fields tag))
  union_is fields tag h k = ap kept_rounded (kept_joined_cut false fields tag k) ∙ kept_rounded_cut (joined_some false fields tag) (joined_some_aligned false fields tag h k)

  union_right : (file node : ℕ) (captures : ValueTrees) (shape : Option ShapeTree) → HasFields (tree.UnionType file node captures) shape → (r : Option Layout) → known_union known shape ≡ Some r → IsKept table (tree.UnionType file node captures) r
  union_right file node captures None h r e = cc
  union_right file node captures (Some s) h r e =
      let x = tagged_some (known_fields known true (Some no_bytes) s.fields) (known_tag known (length s.fields) s.tag) r e in
      let is = fields_right true (Some no_bytes) s.fields one h.1.0 x.0 x.2 in
      at s.tag refl h.1.1 x.0 x.1 is.0 is.1 is.2 x.3 x.4
    where
      at : (tag : Option TypeTree) → s.tag ≡ tag → MatchOption tag (Unit {0}) (IsIn table) → (a b : Option Layout) → (ls : Option (List Layout)) → HaveLayouts table s.fields ls → a ≡ option_map bounded (joined_more true (Some no_bytes) ls) → known_tag known (length s.fields) tag ≡ Some b → kept_rounded (kept_joined false a b) ≡ r → IsKept table (tree.UnionType file node captures) r
      at None same within a b ls have e t k =
          let l = hidden_tag (length s.fields) in
          let b_is : b ≡ Some (bounded l) = sym (some_same (Some l) b t) ∙ ap Some (hidden_bounded (length s.fields)) in (
            option_map (union_layout l) ls,
            sizes.bare_union file node captures s ls h.0 same have,
            sym k ∙ (λ i. kept_rounded (kept_joined false (e i) (b_is i))) ∙ union_is (joined_more true (Some no_bytes) ls) (Some l) (joined_more_aligned true s.fields ls have) (hidden_aligned (length s.fields)) ∙ ap (option_map bounded) (union_cut (Some l) ls ∙ bare_cut l ls),
          )
      at (Some tag) same within a b ls have e t k =
          let is = right tag b within t in (
            tagged_layout is.0 ls,
            sizes.tagged_union file node captures s tag is.0 ls h.0 same is.1 have,
            sym k ∙ (λ i. kept_rounded (kept_joined false (e i) (is.2 i))) ∙ union_is (joined_more true (Some no_bytes) ls) is.0 (joined_more_aligned true s.fields ls have) (HasLayout-aligned table tag is.0 is.1) ∙ ap (option_map bounded) (union_cut is.0 ls),
          )

  simple_kept : (ty : TypeTree) (l : Layout) → HasLayout table ty (Some l) → l ≡ bounded l → (r : Option Layout) → Some (Some l) ≡ Some r → IsKept table ty r
  simple_kept ty l h same r e = (Some l, h, sym (some_same (Some l) r e) ∙ ap Some same)

  none_kept : (ty : TypeTree) → HasLayout table ty None → (r : Option Layout) → Some None ≡ Some r → IsKept table ty r
  none_kept ty h r e = (None, h, sym (some_same None r e))

  unless_kept : (ty of : TypeTree) (l : Layout) → l ≡ bounded l → HasLayout table ty (unless_comptime of l) → (r : Option Layout) → Some (unless_comptime of l) ≡ Some r → IsKept table ty r
  unless_kept ty of l same h r e = (unless_comptime of l, h, sym (some_same (unless_comptime of l) r e) ∙ at (is_comptime_only of))
    where
      at : (b : Bool) → (if b then None else Some l) ≡ option_map bounded (if b then None else Some l)
      at true = refl
      at false = ap Some same

  optional_right : (of : TypeTree) (b : Bool) → is_pointer of ≡ b → (m : Option Layout) → HasLayout table of m → (r : Option Layout) → kept_optional b (option_map bounded m) ≡ r → IsKept table (tree.OptionalType of) r
  optional_right of true p m h r e = (m, sizes.optional_pointer of m p h, sym e)
  optional_right of false p m h r e = (option_map optional_layout m, sizes.optional of m p h, sym e ∙ kept_optional_cut m (HasLayout-aligned table of m h))

  pub parts_right : (ty : TypeTree) (shape : Option ShapeTree) → Each (IsIn table) (parts_of ty) → HasFields ty shape → (r : Option Layout) → known_from_parts known shape ty ≡ Some r → IsKept table ty r
  parts_right (tree.IntType signed bits size) shape each has r e = simple_kept (tree.IntType signed bits size) (integer_layout bits) (sizes.integer signed bits size) (integer_bounded bits) r e
  parts_right tree.BoolType shape each has r e = simple_kept tree.BoolType byte_layout sizes.truth refl r e
  parts_right tree.VoidType shape each has r e = simple_kept tree.VoidType no_bytes sizes.void refl r e
  parts_right tree.AnyErrorType shape each has r e = simple_kept tree.AnyErrorType code_layout sizes.any_error refl r e
  parts_right (tree.ErrorSetType names inferred) shape each has r e = simple_kept (tree.ErrorSetType names inferred) code_layout (sizes.error_set names inferred) refl r e
  parts_right (tree.PointerType many constant of) shape each has r e = unless_kept (tree.PointerType many constant of) of pointer_layout refl (sizes.pointer many constant of) r e
  parts_right (tree.SliceType constant of sentinel) shape each has r e = unless_kept (tree.SliceType constant of sentinel) of slice_layout refl (sizes.slice constant of sentinel) r e
  parts_right (tree.ArrayType len of sentinel) shape each has r e =
      let count = element_count len sentinel in
      let x = mapped_some (kept_array count) (known of) r e in
      let is = right of x.0 each.0 x.1 in
      (option_map (array_layout count) is.0, sizes.array len of sentinel is.0 is.1, sym x.2 ∙ ap (kept_array count) is.2 ∙ kept_array_cut count is.0)
  parts_right (tree.OptionalType of) shape each has r e =
      let x = mapped_some (kept_optional (is_pointer of)) (known of) r e in
      let is = right of x.0 each.0 x.1 in
      optional_right of (is_pointer of) refl is.0 is.1 r (sym (ap (kept_optional (is_pointer of)) is.2) ∙ x.2)
  parts_right (tree.ErrorUnionType set payload) shape each has r e =
      let x = mapped_some kept_error_union (known payload) r e in
      let is = right payload x.0 each.0 x.1 in
      (option_map error_union_layout is.0, sizes.error_union set payload is.0 is.1, sym x.2 ∙ ap kept_error_union is.2 ∙ kept_error_union_cut is.0 (HasLayout-aligned table payload is.0 is.1))
  parts_right (tree.StructType file node captures) shape each has r e = struct_right file node captures shape has r e
  parts_right (tree.EnumType file node captures) shape each has r e = enum_right file node captures shape has r e
  parts_right (tree.UnionType file node captures) shape each has r e = union_right file node captures shape has r e
  parts_right tree.ComptimeIntType shape each has r e = none_kept tree.ComptimeIntType sizes.comptime_int r e
  parts_right tree.NoReturnType shape each has r e = none_kept tree.NoReturnType sizes.no_return r e
  parts_right tree.TypeType shape each has r e = none_kept tree.TypeType sizes.type_type r e
  parts_right tree.NullType shape each has r e = none_kept tree.NullType sizes.null_type r e
  parts_right tree.UndefinedType shape each has r e = none_kept tree.UndefinedType sizes.undefined_type r e
  parts_right tree.EnumLiteralType shape each has r e = none_kept tree.EnumLiteralType sizes.enum_literal r e
  parts_right (tree.FuncType params result comptime outside) shape each has r e = none_kept (tree.FuncType params result comptime outside) (sizes.func params result comptime outside) r e

-- ---- where nothing more comes to be known, each type with a layout is known

mapped_none : {X Y : Type 0} (f : X → Y) (o : Option X) → option_map f o ≡ None → o ≡ None
mapped_none f None e = refl
mapped_none f (Some x) e = cc

module _ (table : TypeTable) (kept : List Kept) (once : AllPairs (λ a b. a ≢ b) table.trees) (as_many : length kept ≡ length table.trees) (shapes_as_many : length table.shapes ≡ length table.trees) (parts : PartsAreIn table) (closed : IsClosed table kept) where
  known : TypeTree → Kept
  known ty = known_in table.trees kept ty

  not_known : (ty : TypeTree) (k : ℕ) → slice_get table.trees k ≡ Some ty → known_in table.trees kept ty ≡ None → slice_get kept k ≡ Some None
  not_known ty k is none =
      let within = slice_get_within table.trees k ty is in
      let ty_is : slice_index_or table.trees k tree.VoidType ≡ ty = get_or_from_slice_get table.trees k ty tree.VoidType is in
      let at = known_at table.trees kept once k within in
      slice_get-get_or kept k None (omega (arith, as_many)) ∙ ap Some (sym at ∙ ap (known_in table.trees kept) ty_is ∙ none)

  one_number : (ty : TypeTree) (j k : ℕ) → slice_get table.trees j ≡ Some ty → slice_get table.trees k ≡ Some ty → j ≡ k
  one_number ty j k a b =
      one_place table.trees tree.VoidType once j k (slice_get_within table.trees j ty a) (slice_get_within table.trees k ty b)
      (get_or_from_slice_get table.trees j ty tree.VoidType a ∙ sym (get_or_from_slice_get table.trees k ty tree.VoidType b))

  -- what is not known has no known parts, whatever its fields
  unknown_parts : (ty : TypeTree) (k : ℕ) → slice_get table.trees k ≡ Some ty → slice_get kept k ≡ Some None → (shape : Option ShapeTree) × (slice_get table.shapes k ≡ Some shape) × (known_from_parts (known_in table.trees kept) shape ty ≡ None)
  unknown_parts ty k is none =
      let within = slice_get_within table.trees k ty is in
      let there = slice_get-get_or table.shapes k None (omega (arith, shapes_as_many)) in
      (slice_index_or table.shapes k None, there, closed k ty (slice_index_or table.shapes k None) is there none)

  -- the same of a container with these fields
  unknown_fields : (ty : TypeTree) (shape : ShapeTree) → HasShape table ty shape → (k : ℕ) → slice_get table.trees k ≡ Some ty → slice_get kept k ≡ Some None → (known_from_parts (known_in table.trees kept) (Some shape) ty ≡ None) × AreIn table shape
  unknown_fields ty shape has k is none =
      let same : has.0 ≡ k = one_number ty has.0 k has.1 is in
      let there : slice_get table.shapes k ≡ Some (Some shape) = subst (λ n. slice_get table.shapes n ≡ Some (Some shape)) same has.2 in
      (closed k ty (Some shape) is there none, parts.1 k shape there)

  abbrev Unknown : Kept → Type 0
  Unknown o = o ≡ None

  tagged_none : (fields tag : Kept) → tagged (known_in table.trees kept) fields tag ≡ None → (Unknown fields → ⊥) → Unknown tag
  tagged_none None tag e apart = absurd (apart refl)
  tagged_none (Some a) None e apart = refl
  tagged_none (Some a) (Some b) e apart = cc

  mutual
    pub type_is_known : (ty : TypeTree) (l : Option Layout) → HasLayout table ty l → (k : ℕ) → slice_get table.trees k ≡ Some ty → slice_get kept k ≡ Some None → ⊥
    type_is_known ty l (sizes.integer signed bits size) k is none = let u = (unknown_parts ty k is none).2 in cc
    type_is_known ty l sizes.truth k is none = let u = (unknown_parts ty k is none).2 in cc
    type_is_known ty l sizes.void k is none = let u = (unknown_parts ty k is none).2 in cc
    type_is_known ty l (sizes.error_set names inferred) k is none = let u = (unknown_parts ty k is none).2 in cc
    type_is_known ty l sizes.any_error k is none = let u = (unknown_parts ty k is none).2 in cc
    type_is_known ty l sizes.comptime_int k is none = let u = (unknown_parts ty k is none).2 in cc
    type_is_known ty l sizes.no_return k is none = let u = (unknown_parts ty k is none).2 in cc
    type_is_known ty l sizes.type_type k is none = let u = (unknown_parts ty k is none).2 in cc
    type_is_known ty l sizes.null_type k is none = let u = (unknown_parts ty k is none).2 in cc
    type_is_known ty l sizes.undefined_type k is none = let u = (unknown_parts ty k is none).2 in cc
    type_is_known ty l sizes.enum_literal k is none = let u = (unknown_parts ty k is none).2 in cc
    type_is_known ty l (sizes.func params result comptime outside) k is none = let u = (unknown_parts ty k is none).2 in cc
    type_is_known ty l (sizes.pointer many constant of) k is none = let u = (unknown_parts ty k is none).2 in cc
    type_is_known ty l (sizes.slice constant of sentinel) k is none = let u = (unknown_parts ty k is none).2 in cc
    type_is_known ty l (sizes.array len of sentinel m h) k is none =
        let u = (unknown_parts ty k is none).2 in
        let w = (parts.0 ty (k, is)).0 in type_is_known of m h w.0 w.1 (not_known of w.0 w.1 (mapped_none (kept_array (element_count len sentinel)) (known_in table.trees kept of) u))
    type_is_known ty l (sizes.optional_pointer of m e h) k is none =
        let u = (unknown_parts ty k is none).2 in
        let w = (parts.0 ty (k, is)).0 in type_is_known of m h w.0 w.1 (not_known of w.0 w.1 (mapped_none (kept_optional (is_pointer of)) (known_in table.trees kept of) u))
    type_is_known ty l (sizes.optional of m e h) k is none =
        let u = (unknown_parts ty k is none).2 in
        let w = (parts.0 ty (k, is)).0 in type_is_known of m h w.0 w.1 (not_known of w.0 w.1 (mapped_none (kept_optional (is_pointer of)) (known_in table.trees kept of) u))
    type_is_known ty l (sizes.error_union set payload m h) k is none =
        let u = (unknown_parts ty k is none).2 in
        let w = (parts.0 ty (k, is)).0 in type_is_known payload m h w.0 w.1 (not_known payload w.0 w.1 (mapped_none kept_error_union (known_in table.trees kept payload) u))
    type_is_known ty l (sizes.struct file node captures shape ls has h) k is none =
        let u = unknown_fields ty shape has k is none in
        fields_are_known shape.fields ls h u.1.0 false (Some no_bytes) (mapped_none kept_rounded (known_fields (known_in table.trees kept) false (Some no_bytes) shape.fields) u.0)
    type_is_known ty l (sizes.enum file node captures shape tag m has e h) k is none =
        let u = unknown_fields ty shape has k is none in
        let w : IsIn table tag = subst (λ (t : Option TypeTree). MatchOption t (Unit {0}) (IsIn table)) e u.1.1 in type_is_known tag m h w.0 w.1 (not_known tag w.0 w.1 (sym (ap (option_and_then (known_in table.trees kept)) e) ∙ u.0))
    type_is_known ty l (sizes.bare_union file node captures shape ls has e h) k is none =
        let u = unknown_fields ty shape has k is none in
        let t = tagged_none (known_fields (known_in table.trees kept) true (Some no_bytes) shape.fields) (known_tag (known_in table.trees kept) (length shape.fields) shape.tag) u.0 (fields_are_known shape.fields ls h u.1.0 true (Some no_bytes)) in
        let tag_is = sym (ap (known_tag (known_in table.trees kept) (length shape.fields)) e) ∙ t in
        cc
    type_is_known ty l (sizes.tagged_union file node captures shape tag m ls has e h g) k is none =
        let u = unknown_fields ty shape has k is none in
        let t = tagged_none (known_fields (known_in table.trees kept) true (Some no_bytes) shape.fields) (known_tag (known_in table.trees kept) (length shape.fields) shape.tag) u.0 (fields_are_known shape.fields ls g u.1.0 true (Some no_bytes)) in
        let w : IsIn table tag = subst (λ (t : Option TypeTree). MatchOption t (Unit {0}) (IsIn table)) e u.1.1 in type_is_known tag m h w.0 w.1 (not_known tag w.0 w.1 (sym (ap (known_tag (known_in table.trees kept) (length shape.fields)) e) ∙ t))

    fields_are_known : (fields : List FieldTree) (ls : Option (List Layout)) → HaveLayouts table fields ls → Each (λ (field : FieldTree). IsIn table field.ty) fields → (over : Bool) (before : Option Layout) → known_fields (known_in table.trees kept) over before fields ≡ None → ⊥
    fields_are_known fields ls sizes.no_fields each over before none = cc
    fields_are_known fields ls (sizes.field_and field more l ls' h g) each over before none =
        at (known_in table.trees kept field.ty) refl (λ e. type_is_known field.ty l h each.0.0 each.0.1 (not_known field.ty each.0.0 each.0.1 e)) (λ x. fields_are_known more ls' g each.1 over (kept_joined over before x))
      where
        at : (o : Kept) → known_in table.trees kept field.ty ≡ o → (known_in table.trees kept field.ty ≡ None → ⊥) → ((x : Option Layout) → known_fields (known_in table.trees kept) over (kept_joined over before x) more ≡ None → ⊥) → ⊥
        at None e first rest = first e
        at (Some x) e first rest = rest x (sym (ap (option_and_then (λ l. known_fields (known_in table.trees kept) over (kept_joined over before l) more)) e) ∙ none)

-- ---- a type has one layout, which stays

module _ (old new : TypeTable) (trees : (k : ℕ) (ty : TypeTree) → slice_get old.trees k ≡ Some ty → slice_get new.trees k ≡ Some ty) (shapes : (k : ℕ) (s : ShapeTree) → slice_get old.shapes k ≡ Some (Some s) → slice_get new.shapes k ≡ Some (Some s)) where
  shape_stays : (ty : TypeTree) (shape : ShapeTree) → HasShape old ty shape → HasShape new ty shape
  shape_stays ty shape h = (h.0, trees h.0 ty h.1, shapes h.0 shape h.2)

  mutual
    pub layout_stays : (ty : TypeTree) (l : Option Layout) → HasLayout old ty l → HasLayout new ty l
    layout_stays ty l (sizes.integer signed bits size) = sizes.integer signed bits size
    layout_stays ty l sizes.truth = sizes.truth
    layout_stays ty l sizes.void = sizes.void
    layout_stays ty l (sizes.error_set names inferred) = sizes.error_set names inferred
    layout_stays ty l sizes.any_error = sizes.any_error
    layout_stays ty l sizes.comptime_int = sizes.comptime_int
    layout_stays ty l sizes.no_return = sizes.no_return
    layout_stays ty l sizes.type_type = sizes.type_type
    layout_stays ty l sizes.null_type = sizes.null_type
    layout_stays ty l sizes.undefined_type = sizes.undefined_type
    layout_stays ty l sizes.enum_literal = sizes.enum_literal
    layout_stays ty l (sizes.func params result comptime outside) = sizes.func params result comptime outside
    layout_stays ty l (sizes.pointer many constant of) = sizes.pointer many constant of
    layout_stays ty l (sizes.slice constant of sentinel) = sizes.slice constant of sentinel
    layout_stays ty l (sizes.array len of sentinel m h) = sizes.array len of sentinel m (layout_stays of m h)
    layout_stays ty l (sizes.optional_pointer of m e h) = sizes.optional_pointer of m e (layout_stays of m h)
    layout_stays ty l (sizes.optional of m e h) = sizes.optional of m e (layout_stays of m h)
    layout_stays ty l (sizes.error_union set payload m h) = sizes.error_union set payload m (layout_stays payload m h)
    layout_stays ty l (sizes.struct file node captures shape ls s h) = sizes.struct file node captures shape ls (shape_stays (tree.StructType file node captures) shape s) (layouts_stay shape.fields ls h)
    layout_stays ty l (sizes.enum file node captures shape tag m s e h) = sizes.enum file node captures shape tag m (shape_stays (tree.EnumType file node captures) shape s) e (layout_stays tag m h)
    layout_stays ty l (sizes.bare_union file node captures shape ls s e h) = sizes.bare_union file node captures shape ls (shape_stays (tree.UnionType file node captures) shape s) e (layouts_stay shape.fields ls h)
    layout_stays ty l (sizes.tagged_union file node captures shape tag m ls s e h k) = sizes.tagged_union file node captures shape tag m ls (shape_stays (tree.UnionType file node captures) shape s) e (layout_stays tag m h) (layouts_stay shape.fields ls k)

    layouts_stay : (fields : List FieldTree) (ls : Option (List Layout)) → HaveLayouts old fields ls → HaveLayouts new fields ls
    layouts_stay fields ls sizes.no_fields = sizes.no_fields
    layouts_stay fields ls (sizes.field_and field more l ls' h k) = sizes.field_and field more l ls' (layout_stays field.ty l h) (layouts_stay more ls' k)

-- ---- what is known stays right in a table with more types or fields

module _ (old new : TypeTable) (trees : (k : ℕ) (ty : TypeTree) → slice_get old.trees k ≡ Some ty → slice_get new.trees k ≡ Some ty) (shapes : (k : ℕ) (s : ShapeTree) → slice_get old.shapes k ≡ Some (Some s) → slice_get new.shapes k ≡ Some (Some s)) where
  pub right_stays : (kept : List Kept) → length kept ≡ length old.trees → AreRight old kept → AreRight new kept
  right_stays kept as_many right k l e =
      let within : k < length old.trees = omega (arith, slice_get_within kept k (Some l) e) in
      let ty = slice_index_or old.trees k tree.VoidType in
      let same : slice_index_or new.trees k tree.VoidType ≡ ty = get_or_from_slice_get new.trees k ty tree.VoidType (trees k ty (slice_get-get_or old.trees k tree.VoidType within)) in
      let is = right k l e in
      (is.0, subst (λ (t : TypeTree). HasLayout new t is.0) (sym same) (layout_stays old new trees shapes ty is.0 is.1), is.2)

pub right_push : (t : TypeTable) (kept : List Kept) → AreRight t kept → AreRight t (kept ++ None ∷ [])
right_push t kept right k l e = elim (slice_get_push_cases kept None (Some l) k e) [
  | inl h ↦ right k l h
  | inr h ↦ absurd (none_is_no_layout l h.1)
]
  where
    none_is_no_layout : (l : Option Layout) → None ≡ Some l → ⊥
    none_is_no_layout l h = cc

-- one more that is right
pub right_set : (t : TypeTable) (kept : List Kept) (k : ℕ) (l : Option Layout) → AreRight t kept → IsKept t (slice_index_or t.trees k tree.VoidType) l → k < length kept → AreRight t (slice_set kept k (Some l))
right_set t kept k l right is within j m e = elim (ℕ_discrete k j) [
  | yes p ↦
      let here : Some (Some l) ≡ Some (Some m) = sym (slice_get_set kept k (Some l) within) ∙ ap (slice_get (slice_set kept k (Some l))) p ∙ e in
      let same : l ≡ m = some_same l m (some_same (Some l) (Some m) here) in
      subst (λ n. IsKept t (slice_index_or t.trees n tree.VoidType) m) p (subst (λ (x : Option Layout). IsKept t (slice_index_or t.trees k tree.VoidType) x) same is)
  | no n ↦ right j m (sym (slice_get_set_other kept k j (Some l) n) ∙ e)
]

-- ---- how many aren't known

pub unknown : List Kept → ℕ
unknown [] = 0
unknown (None ∷ kept) = unknown kept + 1
unknown (Some l ∷ kept) = unknown kept

pub unknown-set : (kept : List Kept) (k : ℕ) (l : Option Layout) → slice_get kept k ≡ Some None → unknown (slice_set kept k (Some l)) < unknown kept
unfolding unknown
unknown-set [] k l e = cc
unknown-set (None ∷ kept) zero l e = omega arith
unknown-set (Some x ∷ kept) zero l e = cc
unknown-set (None ∷ kept) (suc k) l e = omega (arith, unknown-set kept k l e)
unknown-set (Some x ∷ kept) (suc k) l e = unknown-set kept k l e

pub whole_kept : (table : TypeTable) (kept : List Kept) → AllPairs (λ a b. a ≢ b) table.trees → length table.shapes ≡ length table.trees → PartsAreIn table → length kept ≡ length table.trees → AreRight table kept → IsClosed table kept → AreKept table kept
whole_kept table kept once shapes parts as_many right closed = record {
  as_many = as_many;
  right = right;
  whole = λ k l h none. let within : k < length table.trees = omega (arith, as_many, slice_get_within kept k None none) in type_is_known table kept once as_many shapes parts closed (slice_index_or table.trees k tree.VoidType) l h k (slice_get-get_or table.trees k tree.VoidType within) none;
}
