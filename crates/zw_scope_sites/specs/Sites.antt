-- Sites: what surrounds a node, with the lists of names and labels by their heads.
use Rattle.std.specs.Prelude.{◌≡◌, ℕ, List, [], ◌++◌, false, Some, if◌then◌else◌}
use Rattle.zw_tree.specs.Numbering.{below, from}
use Rattle.zw_tree.specs.Trees.{Forest}
use Rattle.zw_tree.specs.declared.ast.Entry.{Entry}
use Rattle.zw_scope_sites.specs.Firsts.{kind_at}
use Rattle.zw_scope_sites.specs.Lists.{IsBindings, IsLabels}
use Rattle.zw_scope_sites.specs.Scopes.{Around, Scope, Standing, bound, is_declaration, name_in, taken_scope}
use Rattle.zw_scope_sites.specs.declared.lists.Binding.{Binding}
use Rattle.zw_scope_sites.specs.declared.lists.Lists.{Lists}
use Rattle.zw_scope_sites.specs.declared.sites.View.{View}
use Rattle.zw_scope_sites.specs.declared.sites.Part.{Part}
use Rattle.zw_scope_sites.specs.declared.sites.Site.{Site}
use Rattle.zw_scope_sites.specs.declared.sites.Surroundings.{Surroundings}

pub record Shows (lists : Lists) (view : View) (scope : Scope) : Type 0 where
  pub names : IsBindings lists view.names scope.visible
  pub labels : IsLabels lists view.labels scope.labels
  pub innermost_loop : view.innermost_loop ≡ scope.loop
  pub in_function : view.in_function ≡ scope.in_function
  pub defers : view.defers ≡ scope.defers

pub record IsSite (lists : Lists) (site : Site) (s : Standing) : Type 0 where
  pub parent : site.parent ≡ s.parent
  pub scope : Shows lists site.view s.scope
  pub siblings : IsBindings lists site.siblings s.siblings

-- a scope, and its names behind what siblings bind
pub record IsPart (lists : Lists) (part : Part) (siblings : List Binding) (scope : Scope) : Type 0 where
  pub shows : Shows lists part.view scope
  pub seen : IsBindings lists part.seen (siblings ++ scope.visible)

pub record Surrounds (lists : Lists) (around : Surroundings) (a : Around) : Type 0 where
  pub parent : around.parent ≡ a.parent
  pub plain : IsPart lists around.plain a.siblings a.plain
  pub taken : IsPart lists around.taken a.siblings a.taken
  pub siblings : IsBindings lists around.siblings a.siblings

-- what the member with this number declares
abbrev pub declared_by : Forest Entry → ℕ → List Binding
declared_by file m = if is_declaration (kind_at (from file m)) then bound m false (name_in (below file m)) else []

-- what surrounds the nodes below the one with this number
abbrev pub around_at : Forest Entry → ℕ → Scope → Around
around_at file n scope =
    record { parent = Some (kind_at (from file n)); plain = scope; taken = taken_scope (kind_at (from file n)) n (below file n) scope; siblings = [] }

abbrev pub with_siblings : Around → List Binding → Around
with_siblings a siblings = record a { siblings = siblings }
