-- Lists that begin with others.
use Rattle.std.proofs.Common.{List, [], ◌++◌, map, refl, sym, ap, ◌∙◌, append_assoc}
use Rattle.std.proofs.lemmas.List.{append-nil, map-append}
use Rattle.zw_session.specs.Lists.{IsPrefix}

-- a list begins with itself
pub prefix_same : {X : Type 0} (xs : List X) → IsPrefix xs xs
prefix_same xs = record { rest = []; is = sym (append-nil xs) }

-- and with what a list begins with that it begins with
pub prefix_trans : {X : Type 0} {xs ys zs : List X} → IsPrefix xs ys → IsPrefix ys zs → IsPrefix xs zs
prefix_trans {xs = xs} p q = record {
  rest = p.rest ++ q.rest;
  is = q.is ∙ ap (λ l. l ++ q.rest) p.is ∙ append_assoc xs p.rest q.rest;
}

-- behind one front
pub prefix_behind : {X : Type 0} (front : List X) {xs ys : List X} → IsPrefix xs ys → IsPrefix (front ++ xs) (front ++ ys)
prefix_behind front {xs = xs} p = record {
  rest = p.rest;
  is = ap (λ l. front ++ l) p.is ∙ sym (append_assoc front xs p.rest);
}

-- what a front is put before begins with it
pub prefix_front : {X : Type 0} (front rest : List X) → IsPrefix front (front ++ rest)
prefix_front front rest = record { rest = rest; is = refl }

-- item by item
pub prefix_map : {X Y : Type 0} (f : X → Y) {xs ys : List X} → IsPrefix xs ys → IsPrefix (map f xs) (map f ys)
prefix_map f {xs = xs} p = record {
  rest = map f p.rest;
  is = ap (map f) p.is ∙ map-append f xs p.rest;
}
