-- Standing: what stands next in frames that have types.
use Rattle.std.proofs.Common.{◌≡◌, List, [], ◌∷◌, ◌++◌, length, reverse, sym, ap, subst, ◌∙◌}
use Rattle.zw_wasm.specs.declared.module.Module.{Module}
use Rattle.zw_wasm.specs.declared.module.ValType.{ValType}
use Rattle.zw_wasm.specs.declared.num.Num.{Num}
use Rattle.zw_wasm.specs.Reduction.{Begins, BeginsLoop, Chooses, Does, Fetched, Found, Frame, Label, Over, Returns, Single, Stands, Work, fetched, stands_in, stands_next}
use Rattle.zw_wasm.specs.Structure.{Code, Ends, Plain, Choice, Block, Repeat}
use Rattle.zw_wasm_sound.specs.Configurations.{AreTypedFrames, AreTypedLabels, IsTypedFrame, IsTypedHost, context_of}
use Rattle.zw_wasm_sound.specs.Rules.{IsTypedCode, types_of}
use Rattle.zw_wasm_sound.proofs.Operands.{types-append}

-- work and the code behind it
abbrev pub code_with : Work → Code → Code
code_with (Single i) rest = Plain i rest
code_with (Chooses result a b) rest = Choice result a b rest
code_with (Begins result body) rest = Block result body rest
code_with (BeginsLoop result body) rest = Repeat result body rest

abbrev pub before_work : Work → Frame → Frame
before_work work f = record f { code = code_with work f.code }

abbrev pub AreTypedStands : Module → List ValType → Stands → Type 0
AreTypedStands m returns (Does work f) = IsTypedFrame m [] returns (before_work work f)
AreTypedStands m returns (Returns os) = types_of os ≡ reverse returns

pub stands-next : (m : Module) (returns : List ValType) (f : Frame) (locals : List ValType) → types_of f.locals ≡ locals → f.arity ≡ length returns → (labels : List Label) (ls : List (List ValType)) (inner : List ValType) (code : Code) (os : List Num) → IsTypedCode (context_of m locals returns) ls inner code (types_of os) → AreTypedLabels (context_of m locals returns) labels ls inner → AreTypedStands m returns (stands_next f code os labels)
stands-next m returns f locals e a labels ls inner (Plain i rest) os h k =
    record { locals = locals; labels = ls; inner = inner; has_locals = e; arity = a; code = h; labelled = k }
stands-next m returns f locals e a labels ls inner (Choice result p q rest) os h k =
    record { locals = locals; labels = ls; inner = inner; has_locals = e; arity = a; code = h; labelled = k }
stands-next m returns f locals e a labels ls inner (Block result body rest) os h k =
    record { locals = locals; labels = ls; inner = inner; has_locals = e; arity = a; code = h; labelled = k }
stands-next m returns f locals e a labels ls inner (Repeat result body rest) os h k =
    record { locals = locals; labels = ls; inner = inner; has_locals = e; arity = a; code = h; labelled = k }
stands-next m returns f locals e a [] ls inner Ends os h k = h ∙ ap reverse k.1
stands-next m returns f locals e a (l ∷ labels) [] inner Ends os h k = absurd k
stands-next m returns f locals e a (l ∷ labels) (takes ∷ ls) inner Ends os h k =
    let same : reverse inner ++ types_of l.below ≡ types_of (os ++ l.below) =
    ap (λ ts. ts ++ types_of l.below) (sym h) ∙ sym (types-append os l.below) in
    stands-next m returns f locals e a labels ls k.0 l.follows (os ++ l.below) (subst (λ ts. IsTypedCode (context_of m locals returns) ls k.0 l.follows ts) same k.1.follows) k.2

pub stands-typed : (m : Module) (returns : List ValType) (f : Frame) → IsTypedFrame m [] returns f → AreTypedStands m returns (stands_in f)
stands-typed m returns f h = stands-next m returns f h.locals h.has_locals h.arity f.labels h.labels h.inner f.code f.operands h.code h.labelled

-- what comes next: work in a frame over others, the lowest of which is the host's; or the results
abbrev pub IsTypedFetched : Module → List ValType → Fetched → Type 0
IsTypedFetched m results (Found work f []) = ⊥
IsTypedFetched m results (Found work f (g ∷ below)) =
    (returns : List ValType) × IsTypedFrame m [] returns (before_work work f) × AreTypedFrames m results (reverse returns) g below
IsTypedFetched m results (Over os) = types_of os ≡ reverse results

-- a frame that is given its operands
pub given-frame : (m : Module) (given returns : List ValType) (f : Frame) (os : List Num) → types_of os ≡ given → IsTypedFrame m given returns f → IsTypedFrame m [] returns (record f { operands = os ++ f.operands })
given-frame m given returns f os e h =
    let same : given ++ types_of f.operands ≡ types_of (os ++ f.operands) =
    ap (λ ts. ts ++ types_of f.operands) (sym e) ∙ sym (types-append os f.operands) in
    record {
      locals = h.locals;
      labels = h.labels;
      inner = h.inner;
      has_locals = h.has_locals;
      arity = h.arity;
      code = subst (λ ts. IsTypedCode (context_of m h.locals returns) h.labels h.inner f.code ts) same h.code;
      labelled = h.labelled;
    }

given-host : (results given : List ValType) (f : Frame) (os : List Num) → types_of os ≡ given → IsTypedHost results given f → IsTypedHost results [] (record f { operands = os ++ f.operands })
given-host results given f os e h = record {
  code = h.code;
  labels = h.labels;
  operands = types-append os f.operands ∙ ap (λ ts. ts ++ types_of f.operands) e ∙ h.operands;
}

-- frames of which the first is given its operands
pub given-frames : (m : Module) (results given : List ValType) (f : Frame) (below : List Frame) (os : List Num) → types_of os ≡ given → AreTypedFrames m results given f below → AreTypedFrames m results [] (record f { operands = os ++ f.operands }) below
given-frames m results given f [] os e h = given-host results given f os e h
given-frames m results given f (g ∷ below) os e h = (h.0, given-frame m given h.0 f os e h.1, h.2)

host-over : (m : Module) (results : List ValType) (f : Frame) (code : Code) (labels : List Label) (os : List Num) → code ≡ Ends → labels ≡ [] → types_of os ≡ reverse results → IsTypedFetched m results (fetched (stands_next f code os labels) [])
host-over m results f code labels os e k h =
    subst (λ d. IsTypedFetched m results (fetched (stands_next f d os labels) [])) (sym e)
    (subst (λ ls. IsTypedFetched m results (fetched (stands_next f Ends os ls) [])) (sym k) h)

-- a frame that returns leaves its results to the one below
or_returned : (m : Module) (results returns : List ValType) (g : Frame) (below : List Frame) (s : Stands) → AreTypedStands m returns s → AreTypedFrames m results (reverse returns) g below → ((os : List Num) → types_of os ≡ reverse returns → IsTypedFetched m results (fetched (stands_in (record g { operands = os ++ g.operands })) below)) → IsTypedFetched m results (fetched s (g ∷ below))
or_returned m results returns g below (Does work f) h k go = (returns, h, k)
or_returned m results returns g below (Returns os) h k go = go os h

pub frames-fetched : (m : Module) (results : List ValType) (below : List Frame) (f : Frame) → AreTypedFrames m results [] f below → IsTypedFetched m results (fetched (stands_in f) below)
frames-fetched m results [] f h = host-over m results f f.code f.labels f.operands h.code h.labels h.operands
frames-fetched m results (g ∷ below) f h =
    or_returned m results h.0 g below (stands_in f) (stands-typed m h.0 f h.1) h.2
    (λ os e. frames-fetched m results below (record g { operands = os ++ g.operands }) (given-frames m results (reverse h.0) g below os e h.2))
