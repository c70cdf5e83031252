use Rattle.std.proofs.Common.{◌-◌, take, ◌++◌, [], map, ap, ◌∙◌}
use Rattle.std.proofs.lemmas.List.{map_push}
use Rattle.zw_files.proofs.PathLemmas.{up-some, up-none}
use Rattle.zw_files.proofs.paths.go_up.Goals as goal

pub returns-in-Some : goal.returns-in-Some
returns-in-Some c =
    up-some (map (λ folder. folder.now) c.args.folders.now.items) (map (λ folder. folder.now) c.pop.new.self.items) c.in-Some.field-0.now
    (ap (map (λ folder. folder.now)) c.in-Some.ensures.items ∙ map_push (λ folder. folder.now) c.pop.new.self.items c.in-Some.field-0)

pub returns-in-None : goal.returns-in-None
returns-in-None c = up-none c.args.folders.now.items (c.in-None.ensures.items ∙ ap (λ l. l ++ []) (c.in-None.ensures.rest ∙ ap (λ n. take (n - 1) c.args.folders.now.items) c.in-None.ensures.cases.0))
