-- The program that is worked out by hand is well-formed.
use Rattle.std.proofs.Common.{◌≡◌, ◌≢◌, refl, ℕ, zero, suc, ◌<◌, [], ◌∷◌, Some, slice_get, inl, inr, All, AllPairs, arith}
use Rattle.std.specs.Prelude.{false}
use Rattle.std.proofs.lemmas.List.Elements.{All-nil, All-cons}
use Rattle.std.proofs.lemmas.List.Kept.{AllPairs-cons}
use Rattle.zw_layout.specs.Sizes.{integer_layout, integer}
use Rattle.zw_typed.specs.NodeTypes.{IsStatement}
use Rattle.zw_types.specs.TypeTrees as tree
use Rattle.zw_types.specs.TypeTrees.{TypeTree, ShapeTree}
use Rattle.zw_types.specs.Tables.{IsFormed, IsTable}
use Rattle.zw_typed.specs.declared.program.Export.{Export}
use Rattle.zw_typed.specs.Programs.{HasForm, IsFunc, IsHostFunc, IsExport, IsWellFormed}
use Rattle.zw_typed.specs.WorkedPrograms.{byte, id, calling}

pub none_pairs : {X : Type 0} (R : X → X → Type 0) → AllPairs R []
none_pairs R = λ i j d l m. absurd (omega arith)

pub one : {X : Type 0} (P : X → Type 0) (x : X) → P x → All P (x ∷ [])
one P x i = All-cons P x [] i (All-nil P)

fitting : (k : ℕ) (shape : ShapeTree) → slice_get calling.types.shapes k ≡ Some (Some shape) → ⊥
fitting zero shape e = cc
fitting (suc zero) shape e = cc
fitting (suc (suc k)) shape e = cc

pub types : IsTable calling.types
types = record {
  once = AllPairs-cons (λ (a b : TypeTree). a ≢ b) byte (tree.NoReturnType ∷ []) (one (λ (b : TypeTree). byte ≢ b) tree.NoReturnType (λ e. cc))
      (AllPairs-cons (λ (a b : TypeTree). a ≢ b) tree.NoReturnType [] (All-nil (λ (b : TypeTree). tree.NoReturnType ≢ b)) (none_pairs (λ (a b : TypeTree). a ≢ b)));
  formed = All-cons IsFormed byte (tree.NoReturnType ∷ []) (omega arith, λ t. cc) (one IsFormed tree.NoReturnType tt);
  as_many = refl;
  fitting = λ k shape e. absurd (fitting k shape e);
}

-- the byte has a layout
byte_form : HasForm calling (id 0)
byte_form = record { there = omega arith; layout = integer_layout 8; is = integer false 8 false }

pub calling-well_formed : IsWellFormed calling
calling-well_formed = record {
  types = types;
  errors = omega arith;
  funcs = one (IsFunc calling) _ (record {
    params = one (HasForm calling) (id 0) byte_form;
    vars = All-nil (HasForm calling);
    result = inl byte_form;
    few = omega arith;
    nodes = (
      record { ty = omega arith; names = tt; in_front = All-nil _; kids = (refl, refl); listed = omega arith },
      (
        record { ty = omega arith; names = omega arith; in_front = one (λ (k : ℕ). k < 1) 0 (omega arith); kids = (refl, refl); listed = omega arith },
        (
          record { ty = omega arith; names = tt; in_front = All-nil _; kids = (refl, refl); listed = omega arith },
          (
            record { ty = omega arith; names = tt; in_front = All-cons (λ (k : ℕ). k < 3) 1 (2 ∷ []) (omega arith) (one (λ (k : ℕ). k < 3) 2 (omega arith)); kids = (tt, refl); listed = omega arith },
            (
              record { ty = omega arith; names = tt; in_front = one (λ (k : ℕ). k < 4) 3 (omega arith); kids = (refl, refl); listed = omega arith },
              (record { ty = omega arith; names = tt; in_front = one (λ (k : ℕ). k < 5) 4 (omega arith); kids = (tt, one IsStatement tree.NoReturnType tt); listed = omega arith }, tt),
            ),
          ),
        ),
      ),
    );
    listed = omega arith;
    body = omega arith;
    ends = inr refl;
  });
  imports = one (IsHostFunc calling) _ (record {
    params = one (HasForm calling) (id 0) byte_form;
    result = byte_form;
    shown = refl;
    gives = refl;
    name = refl;
  });
  exports = one (IsExport calling) _ (record { func = (refl, refl); name = refl });
  names = AllPairs-cons (λ (a b : Export). a.name ≡ b.name → ⊥) _ [] (All-nil _) (none_pairs (λ (a b : Export). a.name ≡ b.name → ⊥));
  types_listed = omega arith;
  funcs_listed = omega arith;
  imports_listed = omega arith;
  exports_listed = omega arith;
}
