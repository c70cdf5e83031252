-- Each example computes.
use Rattle.std.proofs.Common.{refl}
use Rattle.std.specs.Fmt.{digits}
use Rattle.hex.specs.Hex.{encode_with}
use Rattle.zw_report.proofs.laws.stops_are_worked.Goals as goal

pub returns : goal.returns
unfolding digits encode_with
returns c = record {
  file_absent = refl;
  import_path = refl;
  bad_byte = refl;
  bad_token = refl;
  bad_literal = refl;
  syntax = refl;
  not_in_profile = refl;
  shadow = refl;
  unknown_name = refl;
  unused = refl;
  duplicate = refl;
  label = refl;
  flow_place = refl;
  type_mismatch = refl;
  value_range = refl;
  not_comptime = refl;
  no_member = refl;
  call_form = refl;
  not_assignable = refl;
  operand_type = refl;
  comptime_illegal = refl;
  comptime_wild = refl;
  run_time_at_comptime = refl;
  store_depends_on_run_time = refl;
  reaches_comptime_var = refl;
  dependency_loop = refl;
  switch_items = refl;
  value_ignored = refl;
  no_result_type = refl;
  literal_fields = refl;
  compile_error = refl;
  return_missing = refl;
  export_form = refl;
  private = refl;
  quota = refl;
  not_built = refl;
  file_length = refl;
  files = refl;
  nesting = refl;
  instances = refl;
  nodes = refl;
  visits = refl;
  comptime_calls = refl;
  comptime_array = refl;
  comptime_int = refl;
  statics = refl;
  frame_weight = refl;
  int_width = refl;
  error_names = refl;
  tree_length = refl;
  great_place = refl;
  path_with_a_blank = refl;
}
