-- A type's text is its front, and the text of its element where it has one.
use Rattle.std.specs.Prelude.{◌≡◌, ◌++◌, Some, None, refl}
use Rattle.std.proofs.Common.{ap, sym}
use Rattle.zw_types.specs.TypeTrees as tree
use Rattle.zw_types.specs.TypeTrees.{TypeTree}
use Rattle.zw_types.specs.TypeTexts.{front_of, element_of, type_text}

same_element : (a b : TypeTree) → Some a ≡ Some b → a ≡ b
same_element a b h = cc

pub text_with_element : (ty e : TypeTree) → Some e ≡ element_of ty → type_text ty ≡ front_of ty ++ type_text e
text_with_element (tree.ArrayType len of sentinel) e h = ap (λ (x : TypeTree). front_of (tree.ArrayType len of sentinel) ++ type_text x) (sym (same_element e of h))
text_with_element (tree.PointerType many constant of) e h = ap (λ (x : TypeTree). front_of (tree.PointerType many constant of) ++ type_text x) (sym (same_element e of h))
text_with_element (tree.SliceType constant of sentinel) e h = ap (λ (x : TypeTree). front_of (tree.SliceType constant of sentinel) ++ type_text x) (sym (same_element e of h))
text_with_element (tree.OptionalType of) e h = ap (λ (x : TypeTree). front_of (tree.OptionalType of) ++ type_text x) (sym (same_element e of h))
text_with_element (tree.ErrorUnionType set payload) e h = ap (λ (x : TypeTree). front_of (tree.ErrorUnionType set payload) ++ type_text x) (sym (same_element e payload h))
text_with_element _ e h = cc

pub text_alone : (ty : TypeTree) → None ≡ element_of ty → type_text ty ≡ front_of ty
text_alone (tree.ArrayType len of sentinel) h = cc
text_alone (tree.PointerType many constant of) h = cc
text_alone (tree.SliceType constant of sentinel) h = cc
text_alone (tree.OptionalType of) h = cc
text_alone (tree.ErrorUnionType set payload) h = cc
text_alone _ h = refl
