-- The rules of the grammar, by their numbers.
use Rattle.std.specs.Prelude.{List, [], ◌++◌}
use Rattle.zw_grammar.specs.Plain.{PlainRule}
use Rattle.zw_parse_expr.specs.Names.{names_rules}
use Rattle.zw_parse_expr.specs.Types.{types_rules}
use Rattle.zw_parse_expr.specs.Suffixes.{suffixes_rules}
use Rattle.zw_parse_expr.specs.Atoms.{atoms_rules}
use Rattle.zw_parse_expr.specs.AtomParts.{atom_parts_rules}
use Rattle.zw_parse_expr.specs.AnonymousLiterals.{anonymous_literals_rules}
use Rattle.zw_parse_expr.specs.TypedLiterals.{typed_literals_rules}
use Rattle.zw_parse_expr.specs.Expressions.{expressions_rules}
use Rattle.zw_parse_expr.specs.ExpressionsC.{expressions_c_rules}
use Rattle.zw_parse_expr.specs.Bits.{bits_rules}
use Rattle.zw_parse_expr.specs.BitsC.{bits_c_rules}
use Rattle.zw_parse_expr.specs.Products.{products_rules}
use Rattle.zw_parse_expr.specs.ProductsC.{products_c_rules}
use Rattle.zw_parse_expr.specs.Primaries.{primaries_rules}
use Rattle.zw_parse_expr.specs.PrimariesC.{primaries_c_rules}
use Rattle.zw_parse_expr.specs.Labels.{labels_rules}
use Rattle.zw_parse_expr.specs.LabelsC.{labels_c_rules}
use Rattle.zw_parse_expr.specs.Statements.{statements_rules}
use Rattle.zw_parse_expr.specs.NamedStatements.{named_statements_rules}
use Rattle.zw_parse_expr.specs.Bodies.{bodies_rules}
use Rattle.zw_parse_expr.specs.Assignments.{assignments_rules}
use Rattle.zw_parse_expr.specs.Heads.{heads_rules}
use Rattle.zw_parse_expr.specs.Switches.{switches_rules}
use Rattle.zw_parse_expr.specs.Members.{members_rules}
use Rattle.zw_parse_expr.specs.Declarations.{declarations_rules}
use Rattle.zw_parse_expr.specs.PublicDeclarations.{public_declarations_rules}
use Rattle.zw_parse_expr.specs.Functions.{functions_rules}
use Rattle.zw_parse_expr.specs.Followers.{followers_rules}

-- these rules behind others
abbrev pub with_types : List PlainRule → List PlainRule
with_types list = (((((((((list ++ names_rules) ++ types_rules) ++ suffixes_rules) ++ atoms_rules) ++ atom_parts_rules) ++ anonymous_literals_rules) ++ typed_literals_rules) ++ expressions_rules) ++ expressions_c_rules)

-- these rules behind others
abbrev pub with_expressions : List PlainRule → List PlainRule
with_expressions list = (((((((((list ++ bits_rules) ++ bits_c_rules) ++ products_rules) ++ products_c_rules) ++ primaries_rules) ++ primaries_c_rules) ++ labels_rules) ++ labels_c_rules) ++ statements_rules)

-- these rules behind others
abbrev pub with_statements : List PlainRule → List PlainRule
with_statements list = ((((((((((list ++ named_statements_rules) ++ bodies_rules) ++ assignments_rules) ++ heads_rules) ++ switches_rules) ++ members_rules) ++ declarations_rules) ++ public_declarations_rules) ++ functions_rules) ++ followers_rules)

abbrev pub rules : List PlainRule
rules = with_statements (with_expressions (with_types []))
