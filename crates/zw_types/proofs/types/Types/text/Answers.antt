-- The front of the next type joins what is written.
use Rattle.std.proofs.Common.{◌≡◌, ◌<◌, ℕ, List, ◌++◌, string_bytes, Some, sym, ◌∙◌, ap, arith}
use Rattle.std.proofs.lemmas.List.{append_assoc}
use Rattle.zw_types.specs.Readings.{type_at}
use Rattle.zw_types.specs.TypeTexts.{type_text, front_of, element_of}
use Rattle.zw_types.proofs.TextLemmas.{text_with_element}
use Rattle.zw_types.proofs.types.Types.text.Goals as goal

pub loop-text-smaller : goal.loop-text-smaller
loop-text-smaller c = c.in-Some.ensures.known c.loop-text.next.0 c.get-form.ensures.earlier

pub loop-text-preserved : goal.loop-text-preserved
loop-text-preserved c =
    let trees = c.args.self.now.trees in
    let form = c.get-form.result.now in
    let next = type_at trees c.loop-text.next in
    let of = type_at trees c.in-Some.of in
    let smaller : c.in-Some.of.0 < c.loop-text.next.0 = c.in-Some.ensures.known c.loop-text.next.0 c.get-form.ensures.earlier in
    let read : Some of ≡ element_of next = c.in-Some.ensures.read trees ∙ ap element_of c.get-form.ensures.form in
    let front : c.as_str.result.now ≡ front_of next = c.as_str.ensures.value ∙ c.in_ok-front.ensures ∙ ap front_of c.get-form.ensures.form in
    let written : string_bytes c.push_str.new.self ≡ string_bytes c.loop-text.text ++ front_of next =
    c.in_ok-push_str.ensures.bytes ∙ ap (λ (l : List ℕ). string_bytes c.loop-text.text ++ l) front in (
      omega (arith, c.loop-text.invariant.0),
      ap (λ (l : List ℕ). l ++ type_text of) written
          ∙ append_assoc (string_bytes c.loop-text.text) (front_of next) (type_text of)
          ∙ ap (λ (l : List ℕ). string_bytes c.loop-text.text ++ l) (sym (text_with_element next of read))
          ∙ c.loop-text.invariant.1,
    )
