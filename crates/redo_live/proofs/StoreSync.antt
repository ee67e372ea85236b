-- A store may be shared where its devices may go to another thread.
use denote.Param.Send.{AllSync, Frees, IsSend, IsSync, recorded_sync, sendable, struct_sync}
use denote.RattleType.{RattleType}
use denote.Struct.Declared.{shape}
use denote.Struct.Struct.{Struct}
use Rattle.atomic_table.specs.contracts.owned.Table as table
use Rattle.atomic_table.specs.declared.shared.TableRule.{Ghosts as RuleGhosts}
use Rattle.std.specs.declared.alloc.Allocator.{Ghosts as HeapGhosts}
use Rattle.atomic_table.proofs.send_lease.SendLease.TheSendSync.{the_sync as lease_sync}
use Rattle.atomic_table.proofs.shared.Shared.TheSendSync.{the_sync as shared_sync}
use Rattle.atomic_table.specs.contracts.shared.Seat as seat
use Rattle.model_base.proofs.shape.Shape.TheSendSync.{the_field_sync as shape_sync}
use Rattle.model_core.proofs.words.Layout.TheSendSync.{the_field_sync as layout_sync}
use Rattle.model_report.proofs.entry.Entry.TheSendSync.{the_sync as entry_sync}
use Rattle.redo_disk.specs.declared.sectors.Sectors.{Ghosts}
use Rattle.redo_drive.proofs.actor.Actor.TheSendSync.{the_sync as actor_sync}
use Rattle.redo_follow.proofs.tally.Tally.TheSendSync.{the_sync as tally_sync}
use Rattle.redo_follow.specs.contracts.tally.Tally as tally
use Rattle.redo_follow.specs.contracts.tally.TallyReceiver.TheImpl as receiver
use Rattle.redo_live.proofs.Sharing.{seat_sync}
use Rattle.redo_live.specs.contracts.store.Store.{the_row, the_type}
use Rattle.redo_ownrule.proofs.player.Player.TheSendSync.{the_sync as player_sync}
use Rattle.redo_ownrule.specs.contracts.shared.Shared as own
use Rattle.redo_rule.proofs.law.Slot.TheSendSync.{the_send as slot_send}
use Rattle.redo_rule.specs.contracts.law.About as about
use Rattle.redo_rule.specs.contracts.law.Law as law
use Rattle.redo_rule.specs.Ruled.{Ruled, first_view}
use Rattle.redo_rule.specs.contracts.law.Slot as slot
use Rattle.redo_rule.specs.contracts.law.View as view
use Rattle.redo_threads.proofs.live.Calls.TheSendSync.{the_field_sync as calls_sync}
use Rattle.std.proofs.Crossing.{frees as heap_frees, send as heap_send, sync as heap_sync}
use Rattle.std.specs.contracts.alloc.Global as heap
use Rattle.std.specs.contracts.impls.GlobalAllocator.TheImpl as heap_impl
use Rattle.std.specs.contracts.vec.Vec as vec
use Rattle.std.proofs.option.Option.TheSendSync.{the_sync as option_sync, the_field_sync as option_field_sync}
use Rattle.std.proofs.vec.Vec.TheSendSync.{the_sync as vec_sync}

table_struct : (S V K P A : RattleType) (g : RuleGhosts P.Denot S.Denot V.Denot K.Denot) (a : HeapGhosts A.Denot) → IsSend S
    → IsSend A → IsSync A → Frees a a.dealloc_token → IsSync (Struct (shape (table.the_type S V K P A g a)))
table_struct S V K P A g a w send sync frees =
    let all : AllSync (shape (table.the_type S V K P A g a)).fields = (
      shared_sync S V K P g w,
      (
        search sendable,
        (
          search sendable,
          (
            search (sendable, lease_sync, send, frees),
            (search (sendable, lease_sync, send, frees), (search (sendable, sync), tt)),
          ),
        ),
      ),
    ) in
    struct_sync (shape (table.the_type S V K P A g a)) all

seats_sync : (L D : RattleType) (g : Ghosts L.Denot) (h : Ghosts D.Denot) → IsSend L → IsSend D
    → IsSync (seat.the_row (slot.the_row L D g h) (view.the_row L D g h))
seats_sync L D g h l d = seat_sync (slot.the_row L D g h) (view.the_row L D g h) (slot_send L D g h l d)

pub store_sync : (L D : RattleType) (g : Ghosts L.Denot) (h : Ghosts D.Denot) → IsSend L → IsSend D → IsSync (the_row L D g h)
store_sync L D g h l d =
    let s : IsSync (seat.the_row (slot.the_row L D g h) (view.the_row L D g h)) = seats_sync L D g h l d in
    let w : IsSend (slot.the_row L D g h) = slot_send L D g h l d in
    let v : IsSync (vec.the_row (seat.the_row (slot.the_row L D g h) (view.the_row L D g h)) heap.the_row heap_impl.ghosts) =
    vec_sync (seat.the_row (slot.the_row L D g h) (view.the_row L D g h)) heap.the_row heap_impl.ghosts s heap_sync in
    let own_all : AllSync (shape (own.the_type L D tally.the_row g h receiver.ghosts)).fields = (
      table_struct (slot.the_row L D g h) (view.the_row L D g h) (about.the_row L D g h) law.the_row heap.the_row
          (record { holds = Ruled g.seen g.gives h.seen h.gives; first = first_view }) heap_impl.ghosts w heap_send heap_sync heap_frees,
      (
        s,
        (
          search (sendable, layout_sync) depth 40,
          (
            option_field_sync _ v,
            (
              search (sendable, actor_sync, tally_sync, vec_sync, heap_sync) depth 40,
              (search (sendable, entry_sync, vec_sync, heap_sync) depth 40, tt),
            ),
          ),
        ),
      ),
    ) in
    let all : AllSync (shape (the_type L D g h)).fields = (
      struct_sync (shape (own.the_type L D tally.the_row g h receiver.ghosts)) own_all,
      (
        calls_sync,
        (
          shape_sync,
          (
            search sendable,
            (
              search sendable,
              (
                v,
                (search (sendable, player_sync, tally_sync, vec_sync, heap_sync) depth 40, tt),
              ),
            ),
          ),
        ),
      ),
    ) in
    recorded_sync (Struct (shape (the_type L D g h))) (the_type L D g h).D (the_type L D g h).to (the_type L D g h).to_one
    (struct_sync (shape (the_type L D g h)) all)
