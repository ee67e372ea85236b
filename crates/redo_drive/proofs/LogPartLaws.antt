-- The log part meets the laws by which the running store speaks of it.
use Rattle.std.proofs.Common.{Bool, Err, List, [], None, Ok, Option, Some, ap, arith, cond, false, inl, inr, length, refl, subst, sym, true, ℕ, ◌%◌, ◌++◌, ◌+◌, ◌/◌, ◌<◌, ◌==◌, ◌^◌, ◌∙◌, ◌∷◌, ◌≡◌, ◌≤◌, is_some}
use Rattle.std.specs.Prelude.{IfSome, OnOk, Result}
use Rattle.model_base.specs.declared.shape.Shape.{Shape}
use Rattle.model_core.specs.{Entry, IsLogCode, lsn, Tiles, LogSide}
use Rattle.model_core.proofs.Lsns.{lsn_less}
use Rattle.model_device.specs.{Disk}
use Rattle.model_running.proofs.Given.{given_to}
use Rattle.model_running.proofs.BlockGives.{has_block, wholes_there}
use Rattle.model_running.proofs.Groups.{groups_snoc, has_length, places, run_of_log, spans_end}
use Rattle.model_log.proofs.Runs.{run-push}
use Rattle.model_log.specs.{block_of, IsBoundaryBlock, IsGivenTo, IsRunOf, run_layout, Span, spans_of}
use Rattle.model_logcore.specs.{AfterCheckpoint, AfterRead, AfterSync, AfterWrite, CanCheckpoint, CanRead, CanWrite, HasBlock}
use Rattle.model_logcore.specs.LogLaws.{LogLaws}
use Rattle.model_parts.proofs.Longer.{longer-holds, longer-live}
use Rattle.model_parts.specs.{after_asked, after_checkpoint, after_given, after_synced, after_written, next_number}
use Rattle.model_parts.specs.declared.marks.LogMarks.{LogMarks}
use Rattle.model_log.specs.declared.group.Whole.{Whole}
use Rattle.model_base.specs.declared.limits.TheConstants.{BLOCK_SIZE}
use Rattle.model_log.specs.declared.layout.TheConstants.{BLOCK_DATA, BLOCK_HEADER}
use Rattle.redo_disk.specs.{Seen}
use Rattle.redo_logdev.specs.{DiskHolds, HoldsBlock, PartHolds, Stays}
use Rattle.redo_logdev.specs.Part.{Part}
use Rattle.redo_drive.proofs.Outcome.{not_failed, outcome, pick}
use Rattle.redo_disk.specs.declared.error.DevError.{DevError}
use Rattle.redo_disk.specs.declared.error.DevError.TheVariants.{Failed, NoMemory}
use Rattle.redo_drive.proofs.Devices.{no_cause}
use Rattle.redo_drive.specs.Asking.{call_code, code_of}
use Rattle.redo_drive.specs.LogPartSide.{HasFewCheckpoints, HoldsLog, LogCheckpointed, LogRead, LogSynced, LogWrote, log_side}
use Rattle.redo_drive.specs.declared.device.Device.TheVariants.{Log}
use Rattle.model_log.specs.Group as run

told_so : {P Q : Disk → Type 0} (tells : Option Disk) → ((disk : Disk) → P disk → Q disk) → IfSome tells P → IfSome tells Q
told_so None so h = tt
told_so (Some disk) so h = so disk h

-- the marks' choice, field by field
by_code : (f : LogMarks → ℕ) (code : ℕ) (marks ok err : LogMarks) → ◌≡◌ {A = LogMarks} marks (cond (code == 0) ok err) → f marks ≡ cond (code == 0) (f ok) (f err)
by_code f code marks ok err is = ap f is ∙ pick f (code == 0) ok err

by_good : (f : LogMarks → ℕ) (code : ℕ) (marks ok err : LogMarks) → ◌≡◌ {A = LogMarks} marks (cond (code == 0) ok err) → code ≡ 0 → f marks ≡ f ok
by_good f code marks ok err is good = by_code f code marks ok err is ∙ ap (λ (k : ℕ). let z : ℕ = cond (k == 0) (f ok) (f err) in z) good

same_choice : (b : Bool) (x : ℕ) → ◌≡◌ {A = ℕ} (cond b x x) x
same_choice true x = refl
same_choice false x = refl

either : (P : ℕ → Type 0) (b : Bool) (x y z : ℕ) → x ≡ cond b y z → P y → P z → P x
either P true x y z is a b = subst P (sym is) a
either P false x y z is a b = subst P (sym is) b

next_is : (number ckpt : ℕ) → number ≤ 2 ^ 63 + ckpt / 512 → ckpt < 2 ^ 61 → (number + 1 < 2 ^ 64) × (next_number number ≡ number + 1)
next_is number ckpt few small = let a : number + 1 < 2 ^ 64 = omega arith in (a, omega arith)

one_choice : {A : Type 0} (b : Bool) (x : A) → ◌≡◌ {A = A} (cond b x x) x
one_choice true x = refl
one_choice false x = refl

some_disk : (told : Option Disk) → (told ≡ None → ⊥) → (disk : Disk) × (told ≡ Some disk)
some_disk None some = absurd (some refl)
some_disk (Some disk) some = (disk, refl)

-- an error has a code
error_has_code : (fault : DevError) → 0 ≡ code_of Log fault → ⊥
error_has_code Failed none = absurd (omega arith)
error_has_code NoMemory none = absurd (omega arith)

module _ {L : Type 0} (seen : L → Seen) (faults first : ℕ) (Begun : Type 0) where
  abbrev side : LogSide
  side = log_side seen faults first Begun

  abbrev Holds : ℕ → ℕ → List Entry → Part L → Type 0
  Holds = HoldsLog seen faults first Begun

  more : (blocks base n : ℕ) (log : List Entry) (e : Entry) (p : Part L) → base % BLOCK_DATA ≡ 0 → Tiles base log n → e.start ≡ n → 0 < length e.bytes → p.marks.given ≤ lsn n → Holds blocks base log p → Holds blocks base (log ++ e ∷ []) p
  more blocks base n log e p even tiles start some given H = record {
    blocks_are = H.blocks_are;
    later = H.later;
    all_given = H.all_given;
    all_asked = H.all_asked;
    aligned = H.aligned;
    ckpt_stable = H.ckpt_stable;
    stable_written = H.stable_written;
    small = H.small;
    few = H.few;
    number_kept = H.number_kept;
    groups = λ begun wholes are.
        let r = groups_snoc log e wholes are in
        let front : List Whole = r.0 in
        let last : Whole = r.1 in
        let old : IsRunOf (lsn base) front = run_of_log log base n front tiles r.3 in
        let from : last.start ≡ run.last_span_end (lsn base) (spans_of front) =
        ap (λ (z : Span). z.start) r.4.place ∙ ap lsn start ∙ sym (ap (run.last_span_end (lsn base)) (places log front r.3) ∙ spans_end log base n tiles) in
        let longer : IsRunOf (lsn base) (front ++ last ∷ []) = run-push (lsn base) front last old from (has_length e last r.4) in
        let held : PartHolds seen (lsn base) (front ++ last ∷ []) p =
        told_so (seen p.dev).tells (λ disk holds. record {
          holds = longer-holds p.shape (lsn base) front (last ∷ []) p.marks p.tails disk longer holds.holds;
          live = λ live. (longer-live p.shape (lsn base) front (last ∷ []) p.marks p.tails disk longer (record { holds = holds.holds; is_written = holds.live live })).is_written;
        }) (H.groups begun front r.3) in
        subst (λ (z : List Whole). PartHolds seen (lsn base) z p) (sym r.2) held;
  }

  -- a device that tells after a call told before it
  tells_before : (p q : Part L) (result : Result (Unit {0}) DevError) → Stays seen p result q
      → side.Tells q → side.Tells p
  tells_before p q result stays tells = (tells.0, λ none. tells.1 (stays.silent none))

  writes : (blocks base : ℕ) (log : List Entry) (w n code : ℕ) (bytes firsts : List ℕ) (p q : Part L)
      → Holds blocks base log p → CanWrite side blocks base log w n bytes firsts p → LogWrote seen (lsn n) bytes firsts code p q → AfterWrite side blocks base log (lsn n) code p q
  writes blocks base log w n code bytes firsts p q H C W =
      let live : p.failed ≡ None = not_failed p.failed C.sound in
      let ok : LogMarks = after_written (lsn n) p.marks in
      let err : LogMarks = after_given (lsn n) p.marks in
      let o = outcome seen faults code ok err p q H.later W.called in
      let written : q.marks.written ≡ cond (code == 0) (lsn n) p.marks.written = by_code (λ (z : LogMarks). z.written) code q.marks ok err o.marks in
      let stable : q.marks.stable ≡ p.marks.stable = by_code (λ (z : LogMarks). z.stable) code q.marks ok err o.marks ∙ same_choice (code == 0) p.marks.stable in
      let given : q.marks.given ≡ lsn n = by_code (λ (z : LogMarks). z.given) code q.marks ok err o.marks ∙ same_choice (code == 0) (lsn n) in
      let ckpt : q.marks.ckpt ≡ p.marks.ckpt = by_code (λ (z : LogMarks). z.ckpt) code q.marks ok err o.marks ∙ same_choice (code == 0) p.marks.ckpt in
      let asked : q.marks.asked ≡ p.marks.asked = by_code (λ (z : LogMarks). z.asked) code q.marks ok err o.marks ∙ same_choice (code == 0) p.marks.asked in
      let number : q.marks.number ≡ p.marks.number = by_code (λ (z : LogMarks). z.number) code q.marks ok err o.marks ∙ same_choice (code == 0) p.marks.number in
      let at : p.marks.written ≡ lsn w = C.at in
      record {
        holds = record {
          blocks_are = ap (λ (z : Shape). (run_layout z).blocks) W.called.stays.shape ∙ H.blocks_are;
          later = o.later;
          all_given = λ alive. given ∙ sym (by_good (λ (z : LogMarks). z.written) code q.marks ok err o.marks (o.live alive));
          all_asked = λ alive. asked ∙ H.all_asked live ∙ sym ckpt;
          aligned = ap (λ (z : ℕ). z % 512) ckpt ∙ H.aligned;
          ckpt_stable = (let a = H.ckpt_stable in omega arith);
          stable_written = (let a = H.stable_written in let b = C.on in let l = lsn_less w n b in either (λ (z : ℕ). q.marks.stable ≤ z) (code == 0) q.marks.written (lsn n) p.marks.written written (omega arith) (omega arith));
          small = (let a = H.small in let b = C.small in either (λ (z : ℕ). z < 2 ^ 61) (code == 0) q.marks.written (lsn n) p.marks.written written (omega arith) (omega arith));
          few = λ begun. (let f = H.few begun in let z : q.marks.ckpt / 512 ≡ p.marks.ckpt / 512 = ap (λ (k : ℕ). k / 512) ckpt in omega arith);
          number_kept = λ begun. (let f = H.number_kept begun in omega arith);
          groups = λ begun wholes are. W.holds (lsn base) wholes (H.groups begun wholes are)
              (subst (λ (z : ℕ). IsGivenTo (lsn base) wholes (block_of z) (lsn n) bytes firsts) (sym at) (given_to base log w n C.end bytes firsts wholes C.even C.tiles C.base_w C.n_end C.on C.high C.lent are));
        };
        written = written;
        stable = stable;
        given = given;
        ckpt = ckpt;
        asked = asked;
        sound = o.sound;
        causes = λ code cause. absurd (no_cause seen Log faults p.dev p.failed code live cause);
        cause = o.cause;
        told = tells_before p q W.called.result W.called.stays;
      }

  syncs : (blocks base : ℕ) (log : List Entry) (code : ℕ) (p q : Part L) → Holds blocks base log p → side.failed p ≡ false → LogSynced seen code p q → AfterSync side blocks base log code p q
  syncs blocks base log code p q H sound S =
      let live : p.failed ≡ None = not_failed p.failed sound in
      let ok : LogMarks = after_synced p.marks in
      let err : LogMarks = p.marks in
      let o = outcome seen faults code ok err p q H.later S.called in
      let written : q.marks.written ≡ p.marks.written = by_code (λ (z : LogMarks). z.written) code q.marks ok err o.marks ∙ same_choice (code == 0) p.marks.written in
      let stable : q.marks.stable ≡ cond (code == 0) p.marks.written p.marks.stable = by_code (λ (z : LogMarks). z.stable) code q.marks ok err o.marks in
      let given : q.marks.given ≡ p.marks.given = by_code (λ (z : LogMarks). z.given) code q.marks ok err o.marks ∙ same_choice (code == 0) p.marks.given in
      let ckpt : q.marks.ckpt ≡ p.marks.ckpt = by_code (λ (z : LogMarks). z.ckpt) code q.marks ok err o.marks ∙ same_choice (code == 0) p.marks.ckpt in
      let asked : q.marks.asked ≡ p.marks.asked = by_code (λ (z : LogMarks). z.asked) code q.marks ok err o.marks ∙ same_choice (code == 0) p.marks.asked in
      let number : q.marks.number ≡ p.marks.number = by_code (λ (z : LogMarks). z.number) code q.marks ok err o.marks ∙ same_choice (code == 0) p.marks.number in
      record {
        holds = record {
          blocks_are = ap (λ (z : Shape). (run_layout z).blocks) S.called.stays.shape ∙ H.blocks_are;
          later = o.later;
          all_given = λ alive. given ∙ H.all_given live ∙ sym written;
          all_asked = λ alive. asked ∙ H.all_asked live ∙ sym ckpt;
          aligned = ap (λ (z : ℕ). z % 512) ckpt ∙ H.aligned;
          ckpt_stable = (let a = H.ckpt_stable in let b = H.stable_written in either (λ (z : ℕ). q.marks.ckpt ≤ z) (code == 0) q.marks.stable p.marks.written p.marks.stable stable (omega arith) (omega arith));
          stable_written = (let a = H.stable_written in either (λ (z : ℕ). z ≤ q.marks.written) (code == 0) q.marks.stable p.marks.written p.marks.stable stable (omega arith) (omega arith));
          small = (let a = H.small in omega arith);
          few = λ begun. (let f = H.few begun in let z : q.marks.ckpt / 512 ≡ p.marks.ckpt / 512 = ap (λ (k : ℕ). k / 512) ckpt in omega arith);
          number_kept = λ begun. (let f = H.number_kept begun in omega arith);
          groups = λ begun wholes are. S.holds (lsn base) wholes (H.groups begun wholes are);
        };
        written = written;
        stable = stable;
        given = given;
        ckpt = ckpt;
        asked = asked;
        sound = o.sound;
        causes = λ code cause. absurd (no_cause seen Log faults p.dev p.failed code live cause);
        cause = o.cause;
        told = tells_before p q S.called.result S.called.stays;
      }

  checkpoints : (blocks base : ℕ) (log : List Entry) (x code : ℕ) (p q : Part L) → Holds blocks base log p → CanCheckpoint side blocks base log x p → LogCheckpointed seen x code p q → AfterCheckpoint side blocks base log x code p q
  checkpoints blocks base log x code p q H C K =
      let live : p.failed ≡ None = not_failed p.failed C.sound in
      let ok : LogMarks = after_checkpoint (next_number p.marks.number) x p.marks in
      let err : LogMarks = after_asked x p.marks in
      let o = outcome seen faults code ok err p q H.later K.called in
      let written : q.marks.written ≡ p.marks.written = by_code (λ (z : LogMarks). z.written) code q.marks ok err o.marks ∙ same_choice (code == 0) p.marks.written in
      let stable : q.marks.stable ≡ p.marks.stable = by_code (λ (z : LogMarks). z.stable) code q.marks ok err o.marks ∙ same_choice (code == 0) p.marks.stable in
      let given : q.marks.given ≡ p.marks.given = by_code (λ (z : LogMarks). z.given) code q.marks ok err o.marks ∙ same_choice (code == 0) p.marks.given in
      let ckpt : q.marks.ckpt ≡ cond (code == 0) x p.marks.ckpt = by_code (λ (z : LogMarks). z.ckpt) code q.marks ok err o.marks in
      let asked : q.marks.asked ≡ x = by_code (λ (z : LogMarks). z.asked) code q.marks ok err o.marks ∙ same_choice (code == 0) x in
      let small : p.marks.ckpt < 2 ^ 61 = (let a = H.ckpt_stable in let b = H.stable_written in let d = H.small in omega arith) in
      let even = C.even in let further : p.marks.ckpt < x = C.more in let below : x ≤ p.marks.stable = C.below in
      record {
        holds = record {
          blocks_are = ap (λ (z : Shape). (run_layout z).blocks) K.called.stays.shape ∙ H.blocks_are;
          later = o.later;
          all_given = λ alive. given ∙ H.all_given live ∙ sym written;
          all_asked = λ alive. asked ∙ sym (by_good (λ (z : LogMarks). z.ckpt) code q.marks ok err o.marks (o.live alive));
          aligned = either (λ (z : ℕ). z % 512 ≡ 0) (code == 0) q.marks.ckpt x p.marks.ckpt ckpt even H.aligned;
          ckpt_stable = (let a = H.ckpt_stable in either (λ (z : ℕ). z ≤ q.marks.stable) (code == 0) q.marks.ckpt x p.marks.ckpt ckpt (omega arith) (omega arith));
          stable_written = (let a = H.stable_written in omega arith);
          small = (let a = H.small in omega arith);
          few = λ begun. few_by (H.few begun) small even further H.aligned o.marks;
          number_kept = λ begun.
              (let next = next_is p.marks.number p.marks.ckpt (H.few begun) small in
              let kept = H.number_kept begun in
              let more = next.1 in
              either (λ (z : ℕ). first ≤ z) (code == 0) q.marks.number (next_number p.marks.number) p.marks.number
              (by_code (λ (z : LogMarks). z.number) code q.marks ok err o.marks) (omega arith) (omega arith));
          groups = λ begun wholes are. K.holds (next_is p.marks.number p.marks.ckpt (H.few begun) small).0 (lsn base) wholes (H.groups begun wholes are);
        };
        written = written;
        stable = stable;
        given = given;
        ckpt = ckpt;
        asked = asked;
        sound = o.sound;
        causes = λ code cause. absurd (no_cause seen Log faults p.dev p.failed code live cause);
        cause = o.cause;
        told = tells_before p q K.called.result K.called.stays;
      }
    where
      few_by : p.marks.number ≤ 2 ^ 63 + p.marks.ckpt / 512 → p.marks.ckpt < 2 ^ 61 → x % 512 ≡ 0 → p.marks.ckpt < x → p.marks.ckpt % 512 ≡ 0
          → ◌≡◌ {A = LogMarks} q.marks (cond (code == 0) (after_checkpoint (next_number p.marks.number) x p.marks) (after_asked x p.marks)) → q.marks.number ≤ 2 ^ 63 + q.marks.ckpt / 512
      few_by few small even further aligned is = by (code == 0) is
        where
          by : (b : Bool) → ◌≡◌ {A = LogMarks} q.marks (cond b (after_checkpoint (next_number p.marks.number) x p.marks) (after_asked x p.marks)) → q.marks.number ≤ 2 ^ 63 + q.marks.ckpt / 512
          by true is = let n = next_is p.marks.number p.marks.ckpt few small in let n1 = n.1 in
              let a : q.marks.number ≡ next_number p.marks.number = ap (λ (z : LogMarks). z.number) is in let b : q.marks.ckpt ≡ x = ap (λ (z : LogMarks). z.ckpt) is in
              let d : q.marks.ckpt / 512 ≡ x / 512 = ap (λ (k : ℕ). k / 512) b in let e : p.marks.ckpt / 512 < x / 512 = omega arith in omega arith
          by false is = let a : q.marks.number ≡ p.marks.number = ap (λ (z : LogMarks). z.number) is in let b : q.marks.ckpt ≡ p.marks.ckpt = ap (λ (z : LogMarks). z.ckpt) is in
              let d : q.marks.ckpt / 512 ≡ p.marks.ckpt / 512 = ap (λ (k : ℕ). k / 512) b in omega arith

  reads : (blocks base : ℕ) (log : List Entry) (x code : ℕ) (bytes : List ℕ) (p q : Part L)
      → Holds blocks base log p → side.failed p ≡ false → LogRead seen x bytes code p q
      → AfterRead side blocks base log code p q
  reads blocks base log x code bytes p q H sound R =
      let live : p.failed ≡ None = not_failed p.failed sound in
      let o = outcome seen faults code p.marks p.marks p q H.later R.called in
      let same : ◌≡◌ {A = LogMarks} q.marks p.marks = o.marks ∙ one_choice (code == 0) p.marks in
      let written : q.marks.written ≡ p.marks.written = ap (λ (z : LogMarks). z.written) same in
      let stable : q.marks.stable ≡ p.marks.stable = ap (λ (z : LogMarks). z.stable) same in
      let given : q.marks.given ≡ p.marks.given = ap (λ (z : LogMarks). z.given) same in
      let ckpt : q.marks.ckpt ≡ p.marks.ckpt = ap (λ (z : LogMarks). z.ckpt) same in
      let asked : q.marks.asked ≡ p.marks.asked = ap (λ (z : LogMarks). z.asked) same in
      record {
        holds = record {
          blocks_are = ap (λ (z : Shape). (run_layout z).blocks) R.called.stays.shape ∙ H.blocks_are;
          later = o.later;
          all_given = λ alive. given ∙ H.all_given live ∙ sym written;
          all_asked = λ alive. asked ∙ H.all_asked live ∙ sym ckpt;
          aligned = ap (λ (z : ℕ). z % 512) ckpt ∙ H.aligned;
          ckpt_stable = (let a = H.ckpt_stable in omega arith);
          stable_written = (let a = H.stable_written in omega arith);
          small = (let a = H.small in omega arith);
          few = λ begun. subst HasFewCheckpoints (sym same) (H.few begun);
          number_kept = λ begun. subst (λ (z : LogMarks). first ≤ z.number) (sym same) (H.number_kept begun);
          groups = λ begun wholes are. R.holds (lsn base) wholes (H.groups begun wholes are);
        };
        written = written;
        stable = stable;
        given = given;
        ckpt = ckpt;
        asked = asked;
        sound = o.sound;
        causes = λ code cause. absurd (no_cause seen Log faults p.dev p.failed code live cause);
        cause = o.cause;
        told = tells_before p q R.called.result R.called.stays;
      }

  -- what is known after a good call, where the device tells
  after_good : (P : Disk → Type 0) (result : Result (Unit {0}) DevError) (p q : Part L) (disk : Disk)
      → 0 ≡ call_code Log q.failed → Stays seen p result q → (seen q.dev).tells ≡ Some disk
      → OnOk result (IfSome (seen q.dev).tells P) → P disk
  after_good P (Ok done) p q disk code stays tells known = subst (λ (o : Option Disk). IfSome o P) tells known
  after_good P (Err fault) p q disk code stays tells known =
      absurd (error_has_code fault (code ∙ ap (call_code Log) stays.failed))

  gets : (blocks base : ℕ) (log : List Entry) (x : ℕ) (bytes : List ℕ) (p q : Part L)
      → Holds blocks base log p → CanRead side blocks base log x p → LogRead seen x bytes 0 p q → side.Tells q
      → (top : ℕ) → p.marks.stable ≡ lsn top → HasBlock side blocks base log top x bytes
  gets blocks base log x bytes p q H C R tells top stable =
      let disk = some_disk (seen q.dev).tells tells.1 in
      let before : (seen p.dev).tells ≡ Some disk.0 =
      subst (λ (o : Option Disk). IfSome o (λ d. (seen p.dev).tells ≡ Some d)) disk.1 R.told in
      let groups = wholes_there log C.texts in
      let wholes : List Whole = groups.0 in
      let Held : Disk → Type 0 = DiskHolds p.shape (lsn base) wholes p.marks p.tails p.failed in
      let held : Held disk.0 = subst (λ (o : Option Disk). IfSome o Held) before (H.groups tells.0 wholes groups.1) in
      let there : HoldsBlock p x = record { from = omega (arith, C.from, C.even, H.aligned); some = C.some } in
      let Is : Disk → Type 0 = λ d. Held d → IsBoundaryBlock (lsn base) wholes p.marks.written x bytes in
      let block : IsBoundaryBlock (lsn base) wholes p.marks.written x bytes =
      after_good Is R.called.result p q disk.0 R.called.code_is R.called.stays disk.1
      (R.block there (lsn base) wholes) held in
      has_block side blocks base x top p.marks.written log wholes bytes p C stable H.stable_written groups.1
      held.holds.order.written block

  runs : (blocks base : ℕ) (log : List Entry) (x : ℕ) (bytes : List ℕ) (p q : Part L)
      → Holds blocks base log p → CanRead side blocks base log x p → LogRead seen x bytes 0 p q → side.Tells q
      → x + BLOCK_SIZE + BLOCK_HEADER ≤ p.marks.stable → side.IsRunBlock base log x bytes
  runs blocks base log x bytes p q H C R tells below wholes are =
      let disk = some_disk (seen q.dev).tells tells.1 in
      let before : (seen p.dev).tells ≡ Some disk.0 =
      subst (λ (o : Option Disk). IfSome o (λ d. (seen p.dev).tells ≡ Some d)) disk.1 R.told in
      let Held : Disk → Type 0 = DiskHolds p.shape (lsn base) wholes p.marks p.tails p.failed in
      let held : Held disk.0 = subst (λ (o : Option Disk). IfSome o Held) before (H.groups tells.0 wholes are) in
      let there : HoldsBlock p x = record { from = omega (arith, C.from, C.even, H.aligned); some = C.some } in
      let Is : Disk → Type 0 = λ d. Held d → IsBoundaryBlock (lsn base) wholes p.marks.written x bytes in
      let block : IsBoundaryBlock (lsn base) wholes p.marks.written x bytes =
      after_good Is R.called.result p q disk.0 R.called.code_is R.called.stays disk.1
      (R.block there (lsn base) wholes) held in
      let stable = H.stable_written in
      (p.marks.written, held.holds.order.written, record { full = omega arith; block = block })

  codes : (part : Part L) (code : ℕ) → side.Cause part code → IsLogCode code
  codes part code cause = subst IsLogCode (sym cause.code_is) (by cause.fault)
    where
      by : (fault : DevError) → IsLogCode (code_of Log fault)
      by Failed = inl refl
      by NoMemory = inr refl

  broken : (part : Part L) (code : ℕ) → side.Cause part code → side.failed part ≡ true
  broken part code cause = ap is_some cause.failed

  pub log_laws : LogLaws side
  log_laws = record {
    codes = codes;
    broken = broken;
    more = more;
    writes = writes;
    syncs = syncs;
    checkpoints = checkpoints;
    reads = reads;
    gets = gets;
    runs = runs;
  }
