-- The entries of sections, of which one stands at a place.
use Rattle.std.proofs.Common.{◌≡◌, ℕ, ◌<◌, ◌^◌, Bool, List, [], ◌++◌, sym, ap, subst, ◌∙◌, append-nil, arith, eqb, length, true, false, IsTrue, ◌↔◌}
use Rattle.std.proofs.lemmas.Bool.{eqb-false}
use Rattle.zw_wasm.specs.declared.module.CodeBody.{CodeBody}
use Rattle.zw_wasm.specs.declared.module.DataSegment.{DataSegment}
use Rattle.zw_wasm.specs.declared.module.Element.{Element}
use Rattle.zw_wasm.specs.declared.module.ExportDef.{ExportDef}
use Rattle.zw_wasm.specs.declared.module.FuncImport.{FuncImport}
use Rattle.zw_wasm.specs.declared.module.GlobalDef.{GlobalDef}
use Rattle.zw_wasm.specs.declared.module.Instr.{Instr}
use Rattle.zw_wasm.specs.declared.module.ValType.{ValType}
use Rattle.zw_wasm.specs.declared.module.Limits.{Limits}
use Rattle.zw_wasm.specs.ModuleBytes.{◌⌢◌, Byte, IsU32, IsVector, IsByteVector, IsExpression, IsFunctionImport, IsGlobal, IsExport, IsExportKind, IsElement, IsDataSegment, IsLocalRun, IsCode, local_count}
use Rattle.zw_wasm_read.specs.declared.vectors.TableType.{TableType}
use Rattle.zw_wasm_read.specs.Bodies.{IsBody}
use Rattle.zw_wasm_read.specs.Reads.{Leaves, IsUnfit}
use Rattle.zw_wasm_read.specs.Tables.{IsTable}
use Rattle.zw_wasm_read.specs.Uniqueness.{Sure}
use Rattle.zw_wasm_read.proofs.ExpressionLemmas.{sure-expression}
use Rattle.zw_wasm_read.proofs.Leaving.{turn, then, as_kind}
use Rattle.zw_wasm_read.proofs.Uniqueness.{sure-byte, sure-u32, sure-name, sure-byte_vector, sure-vector, sure-value_type, sure-mutability, sure-table_type, then_one, three_one}

abbrev import_of : List ℕ → List ℕ → ℕ → FuncImport
import_of names field ty = record { «module» = names; field = field; ty = ty }

same_import : (i j : FuncImport) → i.«module» ≡ j.«module» → i.field ≡ j.field → i.ty ≡ j.ty → i ≡ j
same_import i j e f g = ap (λ (n : List ℕ). import_of n i.field i.ty) e ∙ ap (λ (n : List ℕ). import_of j.«module» n i.ty) f ∙ ap (λ (n : ℕ). import_of j.«module» j.field n) g

zero_index : Sure (λ (n : ℕ). Byte 0x00 ⌢ IsU32 n)
zero_index = record { one = λ x y bytes r s l m. let same = then_one sure-byte sure-u32 l m in (same.1, same.2) }

pub sure-import : Sure IsFunctionImport
sure-import = record {
  one = λ i j bytes r s l m.
      let same = three_one sure-name sure-name zero_index l m in
      (same_import i j same.0 same.1 same.2, same.3);
}

abbrev global_of : ValType → Bool → List Instr → GlobalDef
global_of ty mutable init = record { ty = ty; mutable = mutable; init = init }

same_global : (g h : GlobalDef) → g.ty ≡ h.ty → g.mutable ≡ h.mutable → g.init ≡ h.init → g ≡ h
same_global g h d e f = ap (λ (t : ValType). global_of t g.mutable g.init) d ∙ ap (λ (b : Bool). global_of h.ty b g.init) e ∙ ap (λ (is : List Instr). global_of h.ty h.mutable is) f

pub sure-global : Sure IsGlobal
sure-global = record {
  one = λ g h bytes r s l m.
      let same = three_one sure-value_type sure-mutability sure-expression l m in
      (same_global g h same.0 same.1 same.2, same.3);
}

export_kind_byte : {kind : ℕ} {bytes rest : List ℕ} → Leaves (IsExportKind kind) bytes rest → Leaves (Byte kind) bytes rest
export_kind_byte l = as_kind (λ front p. p.byte) l

pub sure-export_kind : Sure IsExportKind
sure-export_kind = record { one = λ x y bytes r s l m. sure-byte.one x y bytes r s (export_kind_byte l) (export_kind_byte m) }

pub kind_first : (kind : ℕ) (bytes rest : List ℕ) → Leaves (IsExportKind kind) bytes rest → Leaves (Byte kind) bytes rest
kind_first kind bytes rest l = export_kind_byte l

pub kind_large : (kind : ℕ) (bytes mid : List ℕ) → Leaves (Byte kind) bytes mid → 3 < kind → IsUnfit IsExportKind bytes
kind_large kind bytes mid l large x rest m =
    let same = sure-byte.one kind x bytes mid rest l (export_kind_byte m) in
    omega (arith, same.0, m.spelled.known)

abbrev export_of : List ℕ → ℕ → ℕ → ExportDef
export_of name kind index = record { name = name; kind = kind; index = index }

same_export : (e f : ExportDef) → e.name ≡ f.name → e.kind ≡ f.kind → e.index ≡ f.index → e ≡ f
same_export x y d e f = ap (λ (n : List ℕ). export_of n x.kind x.index) d ∙ ap (λ (n : ℕ). export_of y.name n x.index) e ∙ ap (λ (n : ℕ). export_of y.name y.kind n) f

pub sure-export : Sure IsExport
sure-export = record {
  one = λ e f bytes r s l m.
      let t = turn l in
      let u = turn m in
      let names = sure-name.one e.name f.name bytes t.mid u.mid t.first u.first in
      let others = then_one sure-export_kind sure-u32 (subst (λ (at : List ℕ). Leaves (IsExportKind e.kind ⌢ IsU32 e.index) at r) names.1 t.second) u.second in
      (same_export e f names.0 others.0 others.1, others.2);
}

abbrev element_of : ℕ → List Instr → List ℕ → Element
element_of table at funcs = record { table = table; at = at; funcs = funcs }

same_element : (x y : Element) → x.table ≡ y.table → x.at ≡ y.at → x.funcs ≡ y.funcs → x ≡ y
same_element x y d e f = ap (λ (n : ℕ). element_of n x.at x.funcs) d ∙ ap (λ (is : List Instr). element_of y.table is x.funcs) e ∙ ap (λ (fs : List ℕ). element_of y.table y.at fs) f

pub sure-element : Sure IsElement
sure-element = record {
  one = λ x y bytes r s l m.
      let same = three_one sure-u32 sure-expression (sure-vector sure-u32) l m in
      (same_element x y same.0 same.1 same.2, same.3);
}

abbrev data_of : ℕ → List Instr → List ℕ → DataSegment
data_of memory at bytes = record { memory = memory; at = at; bytes = bytes }

same_data : (x y : DataSegment) → x.memory ≡ y.memory → x.at ≡ y.at → x.bytes ≡ y.bytes → x ≡ y
same_data x y d e f = ap (λ (n : ℕ). data_of n x.at x.bytes) d ∙ ap (λ (is : List Instr). data_of y.memory is x.bytes) e ∙ ap (λ (bs : List ℕ). data_of y.memory y.at bs) f

pub sure-data : Sure IsDataSegment
sure-data = record {
  one = λ x y bytes r s l m.
      let same = three_one sure-u32 sure-expression sure-byte_vector l m in
      (same_data x y same.0 same.1 same.2, same.3);
}

abbrev run_of : ℕ → ValType → ℕ × ValType
run_of n t = (n, t)

pair_same : (x y : ℕ × ValType) → x.0 ≡ y.0 → x.1 ≡ y.1 → x ≡ y
pair_same x y e f = ap (λ (n : ℕ). run_of n x.1) e ∙ ap (λ (t : ValType). run_of y.0 t) f

pub sure-local_run : Sure IsLocalRun
sure-local_run = record {
  one = λ x y bytes r s l m.
      let same = then_one sure-u32 sure-value_type l m in
      (pair_same x y same.0 same.1, same.2);
}

abbrev table_of : Limits → TableType
table_of l = record { limits = l }

pub sure-table : Sure IsTable
sure-table = record {
  one = λ x y bytes r s l m.
      let same = sure-table_type.one x.limits y.limits bytes r s l m in
      (ap table_of same.0, same.1);
}

-- ---- bodies

abbrev body_of : List (ℕ × ValType) → List Instr → CodeBody
body_of locals instrs = record { locals = locals; instrs = instrs }

same_body : (c d : CodeBody) → c.locals ≡ d.locals → c.instrs ≡ d.instrs → c ≡ d
same_body c d e f = ap (λ (ls : List (ℕ × ValType)). body_of ls c.instrs) e ∙ ap (λ (is : List Instr). body_of d.locals is) f

-- all bytes are of the kind
pub all_of : {P : List ℕ → Type 0} (bytes : List ℕ) → P bytes → Leaves P bytes []
all_of bytes p = record { front = bytes; spelled = p; whole = sym (append-nil bytes) }

pub all_is : {P : List ℕ → Type 0} {bytes rest : List ℕ} → Leaves P bytes rest → rest ≡ [] → P bytes
all_is {P} {bytes} {rest} l e = subst P (sym (l.whole ∙ ap (λ (r : List ℕ). l.front ++ r) e ∙ append-nil l.front)) l.spelled

pub body_one : (c d : CodeBody) (content : List ℕ) → IsBody c content → IsBody d content → c ≡ d
body_one c d content p q =
    let same = then_one (sure-vector sure-local_run) sure-expression (all_of content p.parts) (all_of content q.parts) in
    same_body c d same.0 same.1

pub code_content : (c : CodeBody) (bytes rest : List ℕ) → Leaves (IsCode c) bytes rest → (content : List ℕ) × Leaves (IsByteVector content) bytes rest × IsBody c content
code_content c bytes rest l =
    let s = l.spelled.sized in
    (s.content, record { front = l.front; spelled = s.vector; whole = l.whole }, record { few = l.spelled.few_locals; parts = s.inside })

pub sure-code : Sure IsCode
sure-code = record {
  one = λ c d bytes r s l m.
      let a = code_content c bytes r l in
      let b = code_content d bytes s m in
      let same = sure-byte_vector.one a.0 b.0 bytes r s a.1 b.1 in
      (body_one c d b.0 (subst (λ (content : List ℕ). IsBody c content) same.0 a.2) b.2, same.1);
}

pub with_body : (c : CodeBody) (content bytes rest : List ℕ) → Leaves (IsByteVector content) bytes rest → IsBody c content → Leaves (IsCode c) bytes rest
with_body c content bytes rest l b = as_kind (λ front v. record { few_locals = b.few; sized = record { content = content; inside = b.parts; vector = v } }) l

pub no_body : (content bytes mid : List ℕ) → Leaves (IsByteVector content) bytes mid → ((c : CodeBody) → IsBody c content → ⊥) → IsUnfit IsCode bytes
no_body content bytes mid l none c rest m =
    let a = code_content c bytes rest m in
    let same = sure-byte_vector.one content a.0 bytes mid rest l a.1 in
    none c (subst (λ (bs : List ℕ). IsBody c bs) (sym same.0) a.2)

-- what was read is all of a body, or no body is there
pub not_all : (locals : List (ℕ × ValType)) (instrs : List Instr) (content mid rest : List ℕ) → Leaves (IsVector IsLocalRun locals) content mid → Leaves (IsExpression instrs) mid rest → (rest ≡ [] → local_count locals < 2 ^ 32 → ⊥) → (c : CodeBody) → IsBody c content → ⊥
not_all locals instrs content mid rest l m none c b =
    let same = then_one (sure-vector sure-local_run) sure-expression (then l m) (all_of content b.parts) in
    none same.2 (subst (λ (ls : List (ℕ × ValType)). local_count ls < 2 ^ 32) (sym same.0) b.few)

pub whole_body : (locals : List (ℕ × ValType)) (instrs : List Instr) (content mid rest : List ℕ) → Leaves (IsVector IsLocalRun locals) content mid → Leaves (IsExpression instrs) mid rest → rest ≡ [] → (IsVector IsLocalRun locals ⌢ IsExpression instrs) content
whole_body locals instrs content mid rest l m e = all_is (then l m) e

pub not_empty : (xs : List ℕ) (b : Bool) → b ≡ eqb (length xs) 0 → b ≡ false → xs ≡ [] → ⊥
not_empty xs b e f g = let none : length xs ≡ 0 = ap length g in let h : eqb (length xs) 0 ≡ false = sym e ∙ f in omega (arith, eqb-false (length xs) 0 h)

pub not_few : (b : Bool) (A : Type 0) → (IsTrue b ↔ A) → b ≡ false → A → ⊥
not_few b A h e a = let wrong : b ≡ true = h.1 a in absurd cc
