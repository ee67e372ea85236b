-- What an actor makes of an answer, with what its turn put into it; and what that leaves of its seat.
use Rattle.std.proofs.Common.{List, None, Option, Some, [], ap, append-nil, refl, subst, sym, ℕ, ◌++◌, ◌∙◌, ◌∷◌, ◌≡◌}
use Rattle.atomic_table.specs.Seated.{TableId}
use Rattle.atomic_table.specs.Table.{Me}
use Rattle.atomic_table.specs.declared.shared.Seat.{Seat}
use Rattle.model_core.proofs.Rests.{rests}
use Rattle.model_core.specs.States as model
use Rattle.model_core.specs.{AnswerFits, hand, IsFreeToCheck, filled, Filling, Given, next, ReaderState, step_of, took, word_count}
use Rattle.model_core.specs.declared.ops.Answer.{Answer}
use Rattle.model_core.specs.declared.ops.Answer.TheVariants as answer
use Rattle.model_core.specs.declared.ops.Op.{Op}
use Rattle.model_core.specs.declared.ops.Op.TheVariants as op
use Rattle.model_core.specs.declared.ops.Step.{Step}
use Rattle.redo_archiver.specs.Lending as archiving
use Rattle.redo_disk.specs.{Seen}
use Rattle.redo_drive.specs.{filling_of, follower_of, handed_by, HasGot, HasTaken, IsSameFollower, MarkFits, view_of}
use Rattle.redo_drive.specs.declared.actor.Actor.{Actor}
use Rattle.redo_drive.specs.declared.actor.Actor.TheVariants as own
use Rattle.redo_follow.specs.Following.{Following}
use Rattle.redo_follow.specs.Lending.{with_block}
use Rattle.redo_rule.proofs.Behind.{seat_behind, was_cleaner}
use Rattle.redo_rule.proofs.Filled.{IsPlainOp, plain_filled, plain_hands, read_filled}
use Rattle.redo_rule.specs.Handing.{appended_by}
use Rattle.redo_rule.specs.Mine.{HasPlayed, heard_in, heard_of, IsSameSeat, Mine, number_in, number_of}
use Rattle.redo_rule.specs.Ops.{HasPlayedOp}
use Rattle.redo_rule.specs.Readers.{HasBlock}
use Rattle.redo_rule.specs.Plays.{behind, block_filling, Carries, MayGo, no_filling, Shown, Stepped, view_behind}
use Rattle.redo_rule.specs.Seating.{IsSeatOf}
use Rattle.redo_rule.specs.declared.law.Errand.{Errand}
use Rattle.redo_rule.specs.declared.law.Heard.{Heard}
use Rattle.redo_rule.specs.declared.law.Keeping.{Keeping}
use Rattle.redo_rule.specs.declared.law.Numbered.{Numbered}
use Rattle.redo_rule.specs.declared.law.Slot.{Slot}
use Rattle.redo_rule.specs.declared.law.View.{View}

-- An actor has taken an answer, with this put into it before.
pub record TookWith {R : Type 0} (stands : R → List Given → Type 0) (f : Filling) (old : Actor R) (r : Answer) (step :
    Step)
    (new : Actor R) : Type 0 where
  pub state : view_of new ≡ took (filled (view_of old) f) r
  pub ends : step ≡ step_of (filled (view_of old) f) r
  pub same : IsSameFollower (follower_of old) (follower_of new)
  pub got : HasGot stands (follower_of old) (handed_by (filled (view_of old) f)) (follower_of new)

module _ {R : Type 0} (stands : R → List Given → Type 0) (r : Answer) (step : Step) (new : Actor R) where
  with_filling : (old : Actor R) (f : Filling) (h : HasTaken stands old r step new)
      → ◌≡◌ {A = model.Actor} (filled (view_of old) (filling_of (view_of old) h.texts)) (filled (view_of old) f)
      → TookWith stands f old r step new
  with_filling old f h e = record {
    state = h.state ∙ ap (λ (z : model.Actor). took z r) e;
    ends = h.ends ∙ ap (λ (z : model.Actor). step_of z r) e;
    same = h.same;
    got = subst (λ (z : model.Actor). HasGot stands (follower_of old) (handed_by z) (follower_of new)) e h.got;
  }

  -- whoever gives the log part back takes its answer with what was in front
  pub took_given : (old : Actor R) (h : HasTaken stands old r step new)
      → TookWith stands (filling_of (view_of old) h.texts) old r step new
  took_given old h = with_filling old (filling_of (view_of old) h.texts) h refl

  -- and into most nothing is put, whatever it is
  pub took_plain : (f : Filling) (old : Actor R) (o : Op) → next (view_of old) ≡ o → IsPlainOp o
      → IsFreeToCheck (view_of old) → HasTaken stands old r step new → TookWith stands f old r step new
  took_plain f old o is plain free h =
      let its : IsPlainOp (next (view_of old)) = subst IsPlainOp (sym is) plain in
      with_filling old f h (plain_filled (view_of old) (filling_of (view_of old) h.texts) free its
      ∙ sym (plain_filled (view_of old) f free its))

  same_number : (f : Following R) (bytes : List ℕ) (g : Option (Following R))
      → IsSameFollower (Some (with_block f bytes)) g → IsSameFollower (Some f) g
  same_number f bytes None same = same
  same_number f bytes (Some g) same = same

  same_receiver : (f : Following R) (bytes : List ℕ) (groups : List Given) (g : Option (Following R))
      → HasGot stands (Some (with_block f bytes)) groups g → HasGot stands (Some f) groups g
  same_receiver f bytes groups None got = tt
  same_receiver f bytes groups (Some g) got = got

  -- a follower that has read has the block in its room
  pub took_read : (f : Following R) (bytes : List ℕ) (x : ℕ) → next (model.Reader f.state) ≡ op.ReadBlock x
      → HasTaken stands (own.Follower (with_block f bytes)) r step new
      → TookWith stands (block_filling bytes) (own.Follower f) r step new
  took_read f bytes x is h =
      let e = read_filled f.state bytes h.texts x is in record {
        state = h.state ∙ ap (λ (z : model.Actor). took z r) e;
        ends = h.ends ∙ ap (λ (z : model.Actor). step_of z r) e;
        same = same_number f bytes (follower_of new) h.same;
        got = same_receiver f bytes (handed_by (filled (model.Reader f.state) (block_filling bytes))) (follower_of new)
            (subst (λ (z : model.Actor). HasGot stands (Some (with_block f bytes)) (handed_by z) (follower_of new)) e
            h.got);
      }

-- whoever reads has the block in its room
module _ {R : Type 0} (stands : R → List Given → Type 0) (r : Answer) (step : Step) (new : Actor R) where
  -- the archiver that has read has the block in its room
  took_archived : (s : ReaderState) (bytes : List ℕ) (x : ℕ) → next (model.Reader s) ≡ op.ReadBlock x
      → HasTaken stands (own.Archiver (archiving.with_block s bytes)) r step new
      → TookWith stands (block_filling bytes) (own.Archiver s) r step new
  took_archived s bytes x is h =
      let e = read_filled s bytes h.texts x is in record {
        state = h.state ∙ ap (λ (z : model.Actor). took z r) e;
        ends = h.ends ∙ ap (λ (z : model.Actor). step_of z r) e;
        same = h.same;
        got = tt;
      }

  pub took_block : (old mid : Actor R) (bytes : List ℕ) (x : ℕ) → HasBlock old bytes mid
      → next (view_of old) ≡ op.ReadBlock x → HasTaken stands mid r step new
      → TookWith stands (block_filling bytes) old r step new
  took_block (own.Archiver s) mid bytes x has is h = took_archived s bytes x is
      (subst (λ (z : Actor R). HasTaken stands z r step new) has h)
  took_block (own.Follower f) mid bytes x has is h = took_read stands r step new f bytes x is
      (subst (λ (z : Actor R). HasTaken stands z r step new) has h)
  took_block _ mid bytes x has is h = absurd has

-- the answer of a step is one that its actor may take
pub may_take : {L D : Type 0} (log_seen : L → Seen) (data_seen : D → Seen) (x : Numbered) (a : model.Actor) (f :
    Filling)
    (r : Answer) (held : Option (Slot L D)) (stored : Option (Keeping D)) (carried : List (ℕ × Slot L D))
    (m m' : Me (Slot L D) (View L D)) → x.actor ≡ a → Stepped log_seen data_seen x f r held stored carried m m'
    → AnswerFits a r × MarkFits a r
may_take log_seen data_seen x a f r held stored carried m m' e stepped = (
  subst (λ (z : model.Actor). AnswerFits z r) e stepped.fits,
  subst (λ (z : model.Actor). MarkFits z r) e
      stepped.mark,
)

-- an actor that rests stays as it is, and its receiver gets nothing
pub rested : {L D R : Type 0} (stands : R → List Given → Type 0) (v : View L D) (old : Actor R) (step : Step) (new :
    Actor R)
    → next (view_of old) ≡ op.Rest → IsFreeToCheck (view_of old) → HasTaken stands old answer.Rested step new
    → (view_of new ≡ view_of old) × (step ≡ step_of (view_of old) answer.Rested) × IsSameSeat stands v old v new
rested stands v old step new is free h =
    let a : model.Actor = view_of old in
    let plain : IsPlainOp (next a) = subst IsPlainOp (sym is) tt in
    let t = took_plain stands answer.Rested step new no_filling old op.Rest is tt free h in
    let same = plain_filled a no_filling free plain in (
      t.state ∙ ap (λ (z : model.Actor). took z answer.Rested) same ∙ rests a is answer.Rested,
      t.ends ∙ ap (λ (z : model.Actor). step_of z answer.Rested) same,
      record {
        about = refl;
        number = refl;
        layout = refl;
        same = t.same;
        since = [];
        heard = sym (append-nil (heard_of v).groups);
        appended = [];
        blocks = sym (append-nil (heard_of v).blocks);
        got = subst (λ (l : List Given). HasGot stands (follower_of old) l (follower_of new))
            (ap handed_by same ∙ plain_hands a free plain) t.got;
        reads = refl;
      },
    )

-- WHAT A STEP LEAVES, where its actor may have appended a block.
pub record Steps {L D R : Type 0} (log_seen : L → Seen) (data_seen : D → Seen) (stands : R → List Given → Type 0)
    (table : TableId) (seat : Seat (Slot L D) (View L D)) (old : Actor R) (step : Step)
    (last : Seat (Slot L D) (View L D)) (new : Actor R) : Type 0 where
  pub done : HasPlayedOp log_seen data_seen stands table seat old step last new
  pub blocks : (heard_of last.me.0).blocks ≡ (heard_of seat.me.0).blocks ++ appended_by (view_of old)

module _ {L D R : Type 0} (table : TableId) (log_seen : L → Seen) (data_seen : D → Seen)
    (stands : R → List Given → Type 0) (seat : Seat (Slot L D) (View L D)) (x : Numbered) (old new : Actor R)
    (step : Step) (f : Filling) (r : Answer) (held : Option (Slot L D)) (stored : Option (Keeping D))
    (carried had : List (ℕ × Slot L D))
    (m' : Me (Slot L D) (View L D)) (slots : table.slots ≡ 6) (words : table.words ≡ word_count seat.me.0.layout)
    (one : seat.me.0.seats ≡ x ∷ []) (state : x.actor ≡ view_of old)
    (plain : ◌≡◌ {A = Option Errand} x.errand None)
    (stepped : Stepped log_seen data_seen x f r held stored carried (seat.me.0, had) m')
    (t : TookWith stands f old r step new) (last : Seat (Slot L D) (View L D)) (of : last.table_id ≡ table)
    (view : last.me.0 ≡ view_behind seat.me.0 x f r held
    stored)
    (carries : Carries (hand (took (filled (view_of old) f) r)) last.me) where
  then : took (filled x.actor f) r ≡ view_of new
  then = ap (λ (z : model.Actor). took (filled z f) r) state ∙ sym t.state

  its : Mine table last (view_of new)
  its = record {
    of = of;
    slots = slots;
    words = words ∙ ap word_count (sym (ap (λ (w : View L D). w.layout) view));
    who = behind x f r;
    one = ap (λ (w : View L D). w.seats) view;
    state = then;
    plain = plain;
    carries = subst (λ (h : Option ℕ). Carries h last.me) (ap hand (sym t.state)) carries;
    may = subst (λ (w : View L D). MayGo w.layout w.held w.data_part (view_of new)) (sym view)
        (subst (λ (z : model.Actor). MayGo seat.me.0.layout held stored z) then stepped.may);
  }

  has_played : HasPlayed log_seen data_seen seat.me.0 (view_of old) step (view_of new)
  has_played =
      let p = subst (λ (z : model.Actor). (s : Shown log_seen data_seen seat.me.0.about (number_of seat.me.0)
      (heard_of seat.me.0) z r) × (s.turn.filling ≡ f)) state
      (subst (λ (l : List Numbered). (s : Shown log_seen data_seen seat.me.0.about (number_in l) (heard_in l) x.actor r)
      × (s.turn.filling ≡ f))
      (sym one) (stepped.shown, stepped.filling)) in
      record {
        answer = r;
        shown = p.0;
        is = t.state ∙ ap (λ (g : Filling). took (filled (view_of old) g) r) (sym p.1);
        ends = t.ends ∙ ap (λ (g : Filling). step_of (filled (view_of old) g) r) (sym p.1);
      }

  -- an append is known by its block
  blocks_then : (heard_of last.me.0).blocks ≡ (heard_of seat.me.0).blocks ++ appended_by (view_of old)
  blocks_then = ap (λ (w : View L D). (heard_of w).blocks) view
      ∙ ap (λ (z : model.Actor). x.heard.blocks ++ appended_by z) state
      ∙ ap (λ (h : Heard). h.blocks ++ appended_by (view_of old)) (sym (ap heard_in one))

  same_seat : IsSameSeat stands seat.me.0 old last.me.0 new
  same_seat =
      let more : List Given = handed_by (filled (view_of old) f) in record {
        about = ap (λ (w : View L D). w.about) view;
        number = ap (λ (w : View L D). number_of w) view ∙ sym (ap number_in one);
        layout = ap (λ (w : View L D). w.layout) view;
        same = t.same;
        since = more;
        heard = ap (λ (w : View L D). (heard_of w).groups) view
            ∙ ap (λ (z : model.Actor). x.heard.groups ++ handed_by (filled z f)) state
            ∙ ap (λ (h : Heard). h.groups ++ more) (sym (ap heard_in one));
        appended = appended_by (view_of old);
        blocks = blocks_then;
        got = t.got;
        reads = ap (λ (w : View L D). (heard_of w).reads) view
            ∙ ap (λ (h : Heard). h.reads) (sym (ap heard_in one));
      }

  pub leaves : last.id ≡ seat.id → (Mine table last (view_of new) → IsSeatOf table last (view_of new))
      → HasPlayedOp log_seen data_seen stands table seat old step last new
  leaves id sits = record { id = id; seat = sits its; same = same_seat; played = has_played }

  -- it keeps what it knows of the data part
  pub steps : last.id ≡ seat.id → IsSeatOf table seat (view_of old) → stored ≡ seat.me.0.data_part
      → Steps log_seen data_seen stands table seat old step last new
  steps id was e = record {
    done = leaves id (λ mine. seat_behind table seat last (view_of old) (view_of new) was mine
        (ap (λ (w : View L D). w.data_part) view ∙ e)
        (was_cleaner log_seen data_seen (view_of old) (view_of new) step has_played));
    blocks = blocks_then;
  }
