-- `none` makes a handle that holds nothing. Assumes `Logic`.
use Rattle.std.proofs.Common.{◌≡◌, List, [], ◌∷◌, ◌++◌, refl, lit<}
use mir.Val.{Val}
use base.Logic.{SProp, emp}
use prog.Wp.{WpFn}
use contract.Monad.{fact, fact_i}
use contract.Running.{tables}
use types.Kit.{‵, raw, ◌⊛◌, prop, ◌$◌, ◌∵◌, !, qed, by, move, drop, split, fsplit, fjoin, regoal, use0}
use types.Run.{lit, no_more, and_then, returns, enter}
use types.ByLocal.{alloc_all, pass_all, free_all, look_at, get, sets}
use types.Part.{agg}
use denote.Exit.{yes}
use denote.RattleType.{owns}
use denote.RawPtr.{null_ptr}
use denote.Signature.{types_at, plain}
use denote.Steps.{nothing}
use denote.Triple.Entry.{alive}
use denote.Triple.Walked.{Stays, stay_dropped, walk_of}
use Rattle.core.proofs.alloc.Calls.{Goes-blank}
use Rattle.std.proofs.raw_atomic.Walks.{proved_at, leaves}
use Rattle.std.specs.contracts.alloc.Global.{the_row as global_row}
use Rattle.std.proofs.Common.{false, arith}
use Rattle.vm_file.specs.declared.directory.Directory.{Directory}
use Rattle.vm_file.specs.State.{FileState}
use Rattle.vm_blocks.specs.View.{VmState}
use Rattle.geos_kernel.specs.View.{Seen}
use Rattle.std.specs.Global.{Vec}
use Rattle.std.specs.declared.alloc.Global.{Global}
use Rattle.host_device.specs.declared.device.HostDevice.{HostDevice}
use Rattle.takhvoi.specs.declared.system.System.{System}
use Rattle.takhvoi.proofs.Shapes.{handle_val, handle_own, handle_made, global_val, global_told, global_typed, handle_typed}
use Rattle.takhvoi.specs.contracts.handle.Handle.none.{ended, clauses}
use Rattle.takhvoi.specs.contracts.handle.Handle.none.Key.{name as #self}
use Rattle.takhvoi.proofs.handle.Handle.none.Statement.{statement}
use Rattle.takhvoi.proofs.handle.Handle.none.Code as code

abbrev stayed : Stays ended.signature.params ended.kept
stayed = (stay_dropped (plain (λ _. global_row)) yes, tt)

-- any value will do
no_directory : Directory
no_directory = record { entries = record { items = [] }; map_block = 0; map_item = (0, 0) }

no_file : {D : Type 0} → D → FileState D
no_file d = record { device = d; area = 0; second = false; sure = false; current = no_directory; saved = no_directory }

no_vm : VmState Seen
no_vm = record { file = no_file (record { image = []; failed = 0 }); entries = []; map_block = 0; map_item = (0, 0) }

no_device : Global → HostDevice
no_device a = record { cache = record { bytes = no_vec a; failures = 0 }; log = []; failures = 0 }
  where
    no_vec : {T : Type 0} → Global → Vec T
    no_vec a = record { ptr = null_ptr; len = 0; cap = 0; alloc = a; items = []; ok = (refl, omega arith); small = omega arith }

nothing_held : Global → System
nothing_held a = record {
  kernel = record { core = record { blocks = record { blocks = []; places = []; len = record { region = 0; most = 0; handles = 0 } }; vm = no_vm }; device = no_device a };
  machine = record { words = []; counters = []; slots = []; pointers = []; outcome = record { words = []; output = record { items = [] }; steps = 0 } };
  images = record { ptr = null_ptr; len = 0; cap = 0; alloc = a; items = []; ok = (refl, omega arith); small = omega arith };
  hosted = false;
}

pub none_spec : {M : Type 1} → statement M
none_spec 𝓤 𝓛 𝓜 𝓡 wired =
    let H = 𝓛.H in
    let 𝓣 = tables 𝓤 H 𝓜 𝓡 𝓡.env in
    let c = clauses 𝓛 𝓜.mem 𝓡.returns in
    let fn = code.function in
    proved_at 𝓛 ended stayed c 𝓜 𝓡 (Goes-blank 𝓛 0 (plain (λ _. global_row)) yes (λ κs x f. tt), tt) #self fn (code.unfolded 𝓤 H 𝓜 𝓡 wired) (λ z are.
    let Post : Val → SProp 𝓤 = (walk_of 𝓛 ended stayed c).post z in
    let a = z.0.3.0 in
    let told = global_told a z.0.4.0 are.0 in
    qed 𝓛 ((raw (alive 𝓛 ended.signature z.0.0 z.0.1) ⊛ ‵ (owns (types_at ended.signature.params z.0.0) z.0.3 z.0.4)) ∷ raw (emp 𝓤) ∷ []) ∵
    move ! (1 ∷ []) $ drop ! $ split ! $ move ! (1 ∷ []) $ fsplit ! $ drop ! $
    regoal ! (λ (us : List Val). prop (WpFn 𝓤 H 𝓣.C 𝓣.Λ fn us Post)) (λ i. told i ++ []) refl $
    enter ! 𝓣.C 𝓣.Λ fn (global_val ∷ []) Post $
    alloc_all ! (λ l. pass_all ! refl (global_typed, tt) $
    sets ! (agg ! (and_then ! (lit ! tt) (and_then ! (lit ! tt) (and_then ! (get ! refl) (no_more !))))) refl (handle_typed null_ptr 0 (lit< tt)) $
    returns ! (look_at ! 0 refl) $ free_all ! refl $
    -- [no parameters left; the token]
    nothing ! $ use0 𝓛 (‵ (handle_own null_ptr 0 a (handle_val null_ptr 0 ∷ []))) (handle_made 𝓛 null_ptr 0 a (lit< tt)) $ fjoin ! $
    use0 𝓛 (raw (fact 𝓤 (0 ≡ 0))) (fact_i 𝓤 (0 ≡ 0) (emp 𝓤) refl) $
    move ! (2 ∷ []) $ drop ! $ nothing ! $ nothing ! $ fjoin ! $ move ! (3 ∷ 0 ∷ 2 ∷ 1 ∷ []) $
    by ! (leaves 𝓛 ended stayed c z (handle_val null_ptr 0) (record { at = null_ptr; live = 0; alloc = a; value = nothing_held a })
    (tt, tt) (tt, tt))))
