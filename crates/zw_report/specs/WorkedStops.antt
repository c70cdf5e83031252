-- WorkedStops: the line of a stop for each error and each limit.
use Rattle.std.specs.Prelude.{◌≡◌, ℕ, codes}
use Rattle.zw_base.specs.declared.stop.Stop.{Stop}
use Rattle.zw_base.specs.declared.stop.StopKind.{StopKind}
use Rattle.zw_base.specs.declared.stop.StopKind.TheVariants.{Error, Limit}
use Rattle.zw_report.specs.StopLines.{stop_line}

-- a stop at this line and column of the first file
abbrev pub at : ℕ → ℕ → StopKind → Stop
at line column kind = record { kind = kind; place = record { file = 0; line = line; column = column } }

pub record WorkedStops : Type 0 where
  pub file_absent : stop_line (codes "a.zig") (at 1 2 (Error 1)) ≡ codes "a.zig:1:2: error 1 FileAbsent\n"
  pub import_path : stop_line (codes "a.zig") (at 2 3 (Error 2)) ≡ codes "a.zig:2:3: error 2 ImportPath\n"
  pub bad_byte : stop_line (codes "a.zig") (at 3 4 (Error 3)) ≡ codes "a.zig:3:4: error 3 BadByte\n"
  pub bad_token : stop_line (codes "a.zig") (at 4 5 (Error 4)) ≡ codes "a.zig:4:5: error 4 BadToken\n"
  pub bad_literal : stop_line (codes "a.zig") (at 5 6 (Error 5)) ≡ codes "a.zig:5:6: error 5 BadLiteral\n"
  pub syntax : stop_line (codes "a.zig") (at 6 7 (Error 6)) ≡ codes "a.zig:6:7: error 6 Syntax\n"
  pub not_in_profile : stop_line (codes "a.zig") (at 7 8 (Error 7)) ≡ codes "a.zig:7:8: error 7 NotInProfile\n"
  pub shadow : stop_line (codes "a.zig") (at 8 9 (Error 8)) ≡ codes "a.zig:8:9: error 8 Shadow\n"
  pub unknown_name : stop_line (codes "a.zig") (at 9 10 (Error 9)) ≡ codes "a.zig:9:10: error 9 UnknownName\n"
  pub unused : stop_line (codes "a.zig") (at 10 11 (Error 10)) ≡ codes "a.zig:10:11: error 10 Unused\n"
  pub duplicate : stop_line (codes "a.zig") (at 11 12 (Error 11)) ≡ codes "a.zig:11:12: error 11 Duplicate\n"
  pub label : stop_line (codes "a.zig") (at 12 13 (Error 12)) ≡ codes "a.zig:12:13: error 12 Label\n"
  pub flow_place : stop_line (codes "a.zig") (at 13 14 (Error 13)) ≡ codes "a.zig:13:14: error 13 FlowPlace\n"
  pub type_mismatch : stop_line (codes "a.zig") (at 14 15 (Error 14)) ≡ codes "a.zig:14:15: error 14 TypeMismatch\n"
  pub value_range : stop_line (codes "a.zig") (at 15 16 (Error 15)) ≡ codes "a.zig:15:16: error 15 ValueRange\n"
  pub not_comptime : stop_line (codes "a.zig") (at 16 17 (Error 16)) ≡ codes "a.zig:16:17: error 16 NotComptime\n"
  pub no_member : stop_line (codes "a.zig") (at 17 18 (Error 17)) ≡ codes "a.zig:17:18: error 17 NoMember\n"
  pub call_form : stop_line (codes "a.zig") (at 18 19 (Error 18)) ≡ codes "a.zig:18:19: error 18 CallForm\n"
  pub not_assignable : stop_line (codes "a.zig") (at 19 20 (Error 19)) ≡ codes "a.zig:19:20: error 19 NotAssignable\n"
  pub operand_type : stop_line (codes "a.zig") (at 20 21 (Error 20)) ≡ codes "a.zig:20:21: error 20 OperandType\n"
  pub comptime_illegal : stop_line (codes "a.zig") (at 21 22 (Error 21)) ≡ codes "a.zig:21:22: error 21 ComptimeIllegal\n"
  pub comptime_wild : stop_line (codes "a.zig") (at 22 23 (Error 22)) ≡ codes "a.zig:22:23: error 22 ComptimeWild\n"
  pub run_time_at_comptime : stop_line (codes "a.zig") (at 23 24 (Error 23)) ≡ codes "a.zig:23:24: error 23 RunTimeAtComptime\n"
  pub store_depends_on_run_time : stop_line (codes "a.zig") (at 24 25 (Error 24)) ≡ codes "a.zig:24:25: error 24 StoreDependsOnRunTime\n"
  pub reaches_comptime_var : stop_line (codes "a.zig") (at 25 26 (Error 25)) ≡ codes "a.zig:25:26: error 25 ReachesComptimeVar\n"
  pub dependency_loop : stop_line (codes "a.zig") (at 26 27 (Error 26)) ≡ codes "a.zig:26:27: error 26 DependencyLoop\n"
  pub switch_items : stop_line (codes "a.zig") (at 27 28 (Error 27)) ≡ codes "a.zig:27:28: error 27 SwitchItems\n"
  pub value_ignored : stop_line (codes "a.zig") (at 28 29 (Error 28)) ≡ codes "a.zig:28:29: error 28 ValueIgnored\n"
  pub no_result_type : stop_line (codes "a.zig") (at 29 30 (Error 29)) ≡ codes "a.zig:29:30: error 29 NoResultType\n"
  pub literal_fields : stop_line (codes "a.zig") (at 30 31 (Error 30)) ≡ codes "a.zig:30:31: error 30 LiteralFields\n"
  pub compile_error : stop_line (codes "a.zig") (at 31 32 (Error 31)) ≡ codes "a.zig:31:32: error 31 CompileError\n"
  pub return_missing : stop_line (codes "a.zig") (at 32 33 (Error 32)) ≡ codes "a.zig:32:33: error 32 ReturnMissing\n"
  pub export_form : stop_line (codes "a.zig") (at 33 34 (Error 33)) ≡ codes "a.zig:33:34: error 33 ExportForm\n"
  pub private : stop_line (codes "a.zig") (at 34 35 (Error 34)) ≡ codes "a.zig:34:35: error 34 Private\n"
  pub quota : stop_line (codes "a.zig") (at 35 36 (Error 35)) ≡ codes "a.zig:35:36: error 35 Quota\n"
  pub not_built : stop_line (codes "a.zig") (at 36 37 (Error 36)) ≡ codes "a.zig:36:37: error 36 NotBuilt\n"
  pub file_length : stop_line (codes "a.zig") (at 1 2 (Limit 1)) ≡ codes "a.zig:1:2: limit 1 FileLength\n"
  pub files : stop_line (codes "a.zig") (at 2 3 (Limit 2)) ≡ codes "a.zig:2:3: limit 2 Files\n"
  pub nesting : stop_line (codes "a.zig") (at 3 4 (Limit 3)) ≡ codes "a.zig:3:4: limit 3 Nesting\n"
  pub instances : stop_line (codes "a.zig") (at 4 5 (Limit 4)) ≡ codes "a.zig:4:5: limit 4 Instances\n"
  pub nodes : stop_line (codes "a.zig") (at 5 6 (Limit 5)) ≡ codes "a.zig:5:6: limit 5 Nodes\n"
  pub visits : stop_line (codes "a.zig") (at 6 7 (Limit 6)) ≡ codes "a.zig:6:7: limit 6 Visits\n"
  pub comptime_calls : stop_line (codes "a.zig") (at 7 8 (Limit 7)) ≡ codes "a.zig:7:8: limit 7 ComptimeCalls\n"
  pub comptime_array : stop_line (codes "a.zig") (at 8 9 (Limit 8)) ≡ codes "a.zig:8:9: limit 8 ComptimeArray\n"
  pub comptime_int : stop_line (codes "a.zig") (at 9 10 (Limit 9)) ≡ codes "a.zig:9:10: limit 9 ComptimeInt\n"
  pub statics : stop_line (codes "a.zig") (at 10 11 (Limit 10)) ≡ codes "a.zig:10:11: limit 10 Statics\n"
  pub frame_weight : stop_line (codes "a.zig") (at 11 12 (Limit 11)) ≡ codes "a.zig:11:12: limit 11 FrameWeight\n"
  pub int_width : stop_line (codes "a.zig") (at 12 13 (Limit 12)) ≡ codes "a.zig:12:13: limit 12 IntWidth\n"
  pub error_names : stop_line (codes "a.zig") (at 13 14 (Limit 13)) ≡ codes "a.zig:13:14: limit 13 ErrorNames\n"
  pub tree_length : stop_line (codes "a.zig") (at 14 15 (Limit 14)) ≡ codes "a.zig:14:15: limit 14 TreeLength\n"
  -- a place in the last column of a great file, and a path that isn't visible ASCII
  pub great_place : stop_line (codes "src/main.zig") (at 4194304 4194305 (Error 5)) ≡ codes "src/main.zig:4194304:4194305: error 5 BadLiteral\n"
  pub path_with_a_blank : stop_line (codes "a b") (at 1 1 (Limit 11)) ≡ codes "hex:612062:1:1: limit 11 FrameWeight\n"
