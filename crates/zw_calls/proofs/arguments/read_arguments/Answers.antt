use Rattle.std.proofs.Common.{◌+◌, ◌∙◌, get_or, drop, ap, sym, subst, to_z, of_z}
use Rattle.std.specs.Prelude.{FitsSigned}
use Rattle.std.specs.Int.{w128}
use Rattle.std.proofs.lemmas.Int.{to_z-of_z}
use Rattle.std.proofs.lemmas.List.{drop_more}
use Rattle.zw_wasm.specs.declared.module.ValType.TheVariants.{I32}
use Rattle.zw_calls.specs.Arguments.{argument_of, number_of}
use Rattle.zw_calls.proofs.ArgumentLemmas.{no-value, no-word, taken-more}
use Rattle.zw_calls.proofs.arguments.read_arguments.Goals as goal

pub returns-in_default : goal.returns-in_default
returns-in_default c =
    let types = c.args.types.now in
    let at = c.loop-ty.ty-index in
    no-word types (drop at types) (drop (at + 1) types) (get_or types at I32) c.args.words.now c.loop-ty.left.now c.loop-ty.values c.loop-ty.numbers c.loop-ty.invariant (drop_more types at I32 c.loop-ty-test.true) c.in_default.ensures.cases

pub returns-in_default-read_argument : goal.returns-in_default-read_argument
returns-in_default-read_argument c =
    let types = c.args.types.now in
    let at = c.loop-ty.ty-index in
    no-value types (drop at types) (drop (at + 1) types) (get_or types at I32) c.args.words.now c.loop-ty.left.now c.in-Some.others.now c.in-Some.word.now c.loop-ty.values c.loop-ty.numbers c.loop-ty.invariant (drop_more types at I32 c.loop-ty-test.true) c.in-Some.ensures.cases.0
    (λ fits. c.in_default-read_argument.ensures (subst (λ v. FitsSigned w128 (number_of (argument_of v))) (sym c.bytes.ensures) fits))

pub loop-ty-preserved : goal.loop-ty-preserved
loop-ty-preserved c =
    let types = c.args.types.now in
    let at = c.loop-ty.ty-index in
    let number = c.number_of.result in
    let fits : FitsSigned w128 number = subst (λ v. FitsSigned w128 v) (sym (c.number_of.ensures ∙ ap number_of c.in-Some-read_argument.ensures.1)) c.in-Some-read_argument.ensures.0 in
    rw (c.in_ok-push.ensures.ok, c.in_ok-push-2.ensures.ok)
    (taken-more types (drop at types) (drop (at + 1) types) (get_or types at I32) c.args.words.now c.loop-ty.left.now c.in-Some.others.now c.in-Some.word.now c.loop-ty.values c.in-Some-read_argument.value c.loop-ty.numbers (to_z w128 (of_z w128 number)) c.in-Some-typed.number c.loop-ty.invariant (drop_more types at I32 c.loop-ty-test.true) c.in-Some.ensures.cases.0
    (c.in-Some-read_argument.ensures.1 ∙ ap argument_of c.bytes.ensures) (to_z-of_z w128 number fits ∙ c.number_of.ensures) c.in-Some-typed.ensures.0 c.in-Some-typed.ensures.1)
