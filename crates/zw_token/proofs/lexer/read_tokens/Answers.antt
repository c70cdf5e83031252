use Rattle.std.proofs.Common.{◌≡◌, ℕ, List, [], ◌∷◌, ◌++◌, is_ok, sym, ap, ◌∙◌, subst, arith}
use Rattle.std.proofs.ResultArms.{chosen}
use Rattle.zw_token.specs.declared.token.Token.{Token}
use Rattle.zw_token.specs.Reading.{IsGoodUpTo}
use Rattle.zw_token.specs.Tokens.{TokensFrom, start_of}
use Rattle.zw_token.proofs.FirstBad.{good_all, start_good}
use Rattle.zw_token.proofs.Lists.{TokensUpTo, gap_ordered, next_end, next_stands, stands_size, none_yet, one_more, all_now}
use Rattle.zw_token.proofs.Stops.{stops_now}
use Rattle.zw_token.proofs.lexer.read_tokens.Goals as goal
use Rattle.zw_token.proofs.lexer.read_tokens.Goals.{In_ok-map_err-in-Ok}

-- the token that was found is the last of the list
pushed : (c : In_ok-map_err-in-Ok) → c.push.new.self.items ≡ c.loop-token.list.items ++ c.in-Ok.token ∷ []
pushed c = chosen _ _ _ _ c.push.ensures.items (sym c.map_err.ensures.variant ∙ ap is_ok c.in_ok-map_err-in-Ok.was)

pub loop-token-init : goal.loop-token-init
loop-token-init c =
    let text = c.args.text.now in
    let Good : ℕ → Type 0 = λ at. IsGoodUpTo text at at in
    let UpTo : ℕ → Type 0 = λ at. TokensUpTo text at [] in
    let None : List Token → Type 0 = λ list. TokensUpTo text c.start_of-at.result list in
    record {
      good = subst Good (sym c.start_of-at.ensures.value) (start_good text);
      so_far = subst None (sym c.new-list.ensures.items) (subst UpTo (sym c.start_of-at.ensures.value) (none_yet text));
    }

pub returns-in-End : goal.returns-in-End
returns-in-End c =
    let next = c.in-Ok.ensures.found in
    let text = c.args.text.now in
    let token = c.in-Ok.token in
    let end = next_end text c.loop-token.at token next c.in-End.is in
    record {
      list = subst (TokensFrom text (start_of text)) (sym (pushed (goal.at.returns-in-End c).In_ok-map_err-in-Ok)) (all_now text c.loop-token.at c.loop-token.list.items token c.loop-token.invariant.so_far next.0 end);
      no_bad_byte = good_all text token.end c.in-Ok.good c.in-Ok.ensures.good end.end;
    }

pub loop-token-smaller : goal.loop-token-smaller
loop-token-smaller c =
    let next = c.in-Ok.ensures.found in
    let token = c.in-Ok.token in
    let ordered = gap_ordered next.0 in
    let size = stands_size c.args.text.now token (next_stands c.args.text.now c.loop-token.at token next c.in_default.not-End) in
    omega arith

pub loop-token-preserved : goal.loop-token-preserved
loop-token-preserved c =
    let next = c.in-Ok.ensures.found in
    let text = c.args.text.now in
    let token = c.in-Ok.token in
    let stands = next_stands text c.loop-token.at token next c.in_default.not-End in
    record {
      good = c.in-Ok.ensures.good;
      so_far = subst (TokensUpTo text token.end) (sym (pushed (goal.at.loop-token-preserved c).In_ok-map_err-in-Ok)) (one_more text c.loop-token.at c.loop-token.list.items token c.loop-token.invariant.so_far next.0 stands);
    }

pub returns-in-Err : goal.returns-in-Err
returns-in-Err c =
    stops_now c.args.text.now c.loop-token.at c.in-Err.place c.in-Err.error c.loop-token.list.items c.loop-token.invariant.so_far c.in-Err.ensures.stop
