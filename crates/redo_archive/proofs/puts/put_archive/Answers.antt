use Rattle.std.proofs.Common.{◌≡◌, ◌++◌, ℕ, List, map, replicate, ap, subst, ◌∙◌, arith}
use Rattle.std.proofs.lemmas.List.{length-replicate}
use Rattle.std.proofs.lemmas.Result.{on_ok_weaker}
use Rattle.model_base.specs.{overwritten}
use Rattle.model_device.specs.{settled, synced, written, Disk}
use Rattle.model_archive.specs.{archive_head_text, base_text, begun_bytes, mark_text}
use Rattle.redo_archive.specs.Part.{base_writes}
use Rattle.redo_disk.specs.{error_of, MakesCalls, put_requests, Request, Serve, ToWrite, write_at}
use Rattle.redo_disk.proofs.Made.{serves_then}
use Rattle.redo_disk.proofs.Told.{OnTold-then}
use Rattle.redo_archive.proofs.Begins.{calls-ok}
use Rattle.redo_archive.proofs.Sealing.{sized-zeroed}
use Rattle.redo_archive.proofs.puts.put_archive.Goals as goal

pub write_base-requires-clause-sized : goal.write_base-requires-clause-sized
write_base-requires-clause-sized g c =
    sized-zeroed _ _ _ _ (replicate 1536 0) (omega (arith, length-replicate {A = ℕ} 1536 0, c.requires.long))
    c.in_ok-write_and_sync.ensures.size c.requires.sized c.in_ok-write_and_sync.ensures.ok

pub returns-clause-ok : goal.returns-clause-ok
returns-clause-ok g c =
    let shape = c.args.shape.now in
    let start : ℕ = c.args.start in
    let zeros : List ℕ = replicate 1536 0 in
    let texts : List ℕ = base_text 0 shape.space c.args.pages.now in
    let mark = c.fill_mark.new.out in
    let head = c.fill_archive_head.new.out in
    let Based : Disk → Disk → Type 0 = λ old new. new.reads ≡ overwritten 1536 texts (overwritten 0 zeros old.reads) in
    let Marked : Disk → Disk → Type 0 =
    λ old new. new.reads ≡ overwritten 512 mark (overwritten 1536 texts (overwritten 0 zeros old.reads)) in
    let second = OnTold-then _ _ _ (λ (old new : Disk). new ≡ synced (written old (write_at 0 zeros)))
    (λ (old new : Disk). new.reads ≡ overwritten 1536 texts old.reads) Based
    (λ a b d one two. two ∙ ap (λ (x : Disk). overwritten 1536 texts x.reads) one)
    c.in_ok-write_and_sync.ensures.ok c.in_ok-write_base.ensures.ok.1 in
    let third = OnTold-then _ _ _ Based (λ (old new : Disk). new ≡ synced (written old (write_at 512 mark))) Marked
    (λ a b d one two. ap (λ (x : Disk). x.reads) two ∙ ap (overwritten 512 mark) one)
    second c.in_ok-write_and_sync-2.ensures.ok in
    on_ok_weaker c.write_and_sync-3.result
    (λ done. (
      c.in_ok-write_base.ensures.ok.0,
      OnTold-then _ _ _ Marked (λ (old new : Disk). new ≡ synced (written old (write_at 0 head)))
          (λ (old new : Disk). new ≡ settled (begun_bytes shape start texts old.reads))
          (λ a b d one two. two ∙ ap (λ (bytes : List ℕ). settled (overwritten 0 head bytes)) one
          ∙ ap (λ (bytes : List ℕ). settled (overwritten 0 bytes (overwritten 512 mark
          (overwritten 1536 texts (overwritten 0 zeros a.reads))))) c.fill_archive_head.ensures
          ∙ ap (λ (bytes : List ℕ). settled (overwritten 0 (archive_head_text start shape) (overwritten 512 bytes
          (overwritten 1536 texts (overwritten 0 zeros a.reads))))) c.fill_mark.ensures) third done,
    )) c.write_and_sync-3.ensures.ok

pub returns-clause-calls : goal.returns-clause-calls
returns-clause-calls g c =
    let gives = g.A.Sectors.gives in
    let shape = c.args.shape.now in
    let old = c.args.device.now in
    let new = c.write_and_sync-3.new.device in
    let result = c.write_and_sync-3.result in
    let asks : List ℕ → List ℕ → List Request =
    λ mark head. put_requests (write_at 0 (replicate 1536 0)) ++ map ToWrite (base_writes shape 0 c.args.pages.now)
    ++ put_requests (write_at 512 mark) ++ put_requests (write_at 0 head) in
    let made : MakesCalls gives old new
    (Serve (asks c.fill_mark.new.out c.fill_archive_head.new.out) (error_of result)) =
    serves_then (serves_then (serves_then c.in_ok-write_and_sync.ensures.calls c.in_ok-write_base.ensures.calls)
    c.in_ok-write_and_sync-2.ensures.calls) c.write_and_sync-3.ensures.calls in
    calls-ok gives old new (asks (mark_text 0 c.args.start) (archive_head_text c.args.start shape)) result
    (subst (λ (head : List ℕ). MakesCalls gives old new
    (Serve (asks (mark_text 0 c.args.start) head) (error_of result))) c.fill_archive_head.ensures
    (subst (λ (mark : List ℕ). MakesCalls gives old new
    (Serve (asks mark c.fill_archive_head.new.out) (error_of result))) c.fill_mark.ensures made))
