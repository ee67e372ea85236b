-- The log half holds at the start of a run, with a user that gets a seat later, and where one seat takes in another's groups.
use Rattle.model_core.specs.{ReaderState, Actor, cell_of, ChecksWithoutTail, CheckpointerState, CleanerState, CloserState, entries, entries_from, first_of, floor, FlusherState, holds, lane_of, LoadedMarks, lsn, SharedWords, sum_of, WriterState, LogSide, Setup, StartWords}
use Rattle.model_logcore.specs.LogFits.{ReaderAt, AreBelow, CheckpointerFits, FlusherFits, LogFits, UserAt, WriterFits, LogHalf, left_to_reserve}
use Rattle.std.proofs.Common.{Bool, List, [], ap, arith, cond, eq-eqb, eqb, false, length, ne_eqb, refl, subst, suc, sym, true, ℕ, ⊎_elim, ◌+◌, ◌/◌, ◌<◌, ◌∙◌, ◌∷◌, ◌≡◌, ◌*◌}
use lib.ListN.{get_elem?}
use native.Mathlib.Decide.{ℕ_discrete}
use Rattle.model_base.specs.declared.limits.TheConstants.{LSN_LIMIT}
use Rattle.model_log.specs.declared.layout.TheConstants.{BLOCK_DATA}
use Rattle.model_core.proofs.Groups.{first_base}
use Rattle.model_core.proofs.Lanes.{base_word, lane_of_zero}
use Rattle.model_core.proofs.Lsns.{floor_lsn, lsn_block, lsn_offset}
unfoldable use Rattle.model_core.specs.{lane}
use Rattle.model_logcore.proofs.NewUsers.{new_user_is}
use Rattle.model_logcore.proofs.StartEmpty.{start_tail}
use Rattle.model_logcore.specs.LogFacts.{LogFacts, LogGhost, sum_over_actors}
use Rattle.model_logcore.specs.Start.{StartActor, StartPart}
use Rattle.model_core.specs.declared.steps.AdvanceStep.TheVariants as advance_step
use Rattle.model_core.specs.declared.steps.CloserStep.TheVariants as closer_step
use Rattle.model_core.specs.declared.steps.CleanerStep.TheVariants as cleaner_step
use Rattle.model_core.specs.States as actor
use mathlib.Core.Option as maybe

module _ (D : LogSide) (c : Setup) (m : SharedWords) (p : D.Part) (seat_of : ℕ → ℕ) (writer : ℕ) (W : StartWords c m) (P : StartPart D c p) where
  abbrev pub start_first : ℕ → ℕ
  start_first q = cond (eqb q (c.base / BLOCK_DATA)) 12 0

  abbrev pub start : LogGhost
  start = record {
    log = [];
    place = λ x. record { owner = 0; start = 0; end = 0 };
    state = λ x. 0;
    first = start_first;
    seat_of = seat_of;
    answered = λ x. 0;
    write = c.base;
    wtail = c.base;
    flushed = c.base;
    tail = c.base;
    advancer = 0;
    target = c.base;
    read = c.base;
    entered = c.base / BLOCK_DATA;
    writer = writer;
    holder = 0;
  }

  only_base : (q : ℕ) → 0 < start_first q → q ≡ c.base / BLOCK_DATA
  only_base q h = elim (ℕ_discrete q (c.base / BLOCK_DATA)) [
    | yes e ↦ e
    | no n ↦ (let z : start_first q ≡ 0 = ap (λ (b : Bool). let k : ℕ = cond b 12 0 in k) (ne_eqb q (c.base / BLOCK_DATA) n) in absurd (omega arith))
  ]

  base_first : start_first (c.base / BLOCK_DATA) ≡ 12
  base_first = ap (λ (b : Bool). let k : ℕ = cond b 12 0 in k) (eq-eqb (c.base / BLOCK_DATA) (c.base / BLOCK_DATA) refl)

  start_global : LogFacts D c m start p
  start_global =
      let e = W.even in let s = W.sn in let w = W.write in let t = W.wtail in let f = W.flushed in let a = P.written in let b = P.stable in
      record {
        tiled = record { tiles = sym s; placed = λ i x z. absurd (maybe.some-ne-none x (sym z)); lines = λ i x z. absurd (maybe.some-ne-none x (sym z)); ranks = λ i x z. absurd (maybe.some-ne-none x (sym z)); bytes = λ x l h. absurd (omega arith) };
        order = record {
          base_even = e;
          write_is = w;
          wtail_is = t;
          flushed_is = f;
          base_write = omega arith;
          write_read = omega arith;
          read_target = omega arith;
          target_wtail = omega arith;
          wtail_tail = omega arith;
          free = λ _. refl;
          tail_sn = omega arith;
          near = (let k = floor_lsn c.base in let y : floor m.write ≡ floor (lsn c.base) = ap floor w in let b = lsn_offset c.base in let q = lsn_block c.base in omega arith);
          read_entered = omega arith;
          entered_target = omega arith;
          write_bound = refl;
          wtail_bound = refl;
          tail_bound = refl;
          target_bound = refl;
          flushed_bound = refl;
        };
        ring_cells = record {
          wide = λ i. (let z = W.cells i in omega arith);
          stands = λ x w l. (let b = base_word c.base c.base x e (omega arith) w in absurd (omega arith));
          bare = λ x lo hi z. ap (lane (lane_of x)) (W.cells (cell_of x)) ∙ lane_of_zero (lane_of x);
        };
        first_offsets = record {
          slots_are = W.firsts;
          near = λ q h. (let z = only_base q h in let k = floor_lsn c.base in let y : floor m.write ≡ floor (lsn c.base) = ap floor w in omega arith);
          true_first = λ q h. let z = only_base q h in ap start_first z ∙ base_first ∙ sym (first_base c.base []) ∙ ap (first_of c.base []) (sym z);
          stored = λ i x z. absurd (maybe.some-ne-none x (sym z));
          begun = (let z = base_first in omega arith);
        };
        written_links = record { linked = λ x l h. absurd (omega arith); links_are = λ i l h. (let z = W.wlinks i in absurd (omega arith)); standing = λ i x z. absurd (maybe.some-ne-none x (sym z)) };
        commits = record { flush = λ i x z. absurd (maybe.some-ne-none x (sym z)); wrote = λ i x z. absurd (maybe.some-ne-none x (sym z)); linked = λ i x z. absurd (maybe.some-ne-none x (sym z)); last = λ v. omega arith };
        part = record {
          holds = P.holds;
          written = c.base;
          stable = c.base;
          written_is = a;
          stable_is = b;
          written_bound = refl;
          stable_bound = refl;
          write_written = omega arith;
          written_wtail = omega arith;
          given_wtail = (let z = P.given in omega arith);
          flushed_stable = omega arith;
          stable_written = omega arith;
          ckpt_part = (let z = W.ckpt in let y = P.ckpt in omega arith);
          written_given = (let z = P.given in omega arith);
          ckpt_asked = (let z = P.ckpt in let y = P.asked in omega arith);
          asked_stable = (let z = P.asked in omega arith);
          turn_word = (let z = W.device in omega arith);
        };
      }

  start_fits : (seat : ℕ) (a : Actor) → StartActor c seat_of writer seat a → LogFits D c m start p seat a
  start_fits seat (actor.User u) h = let k = new_user_is c u h.1 in record {
    own_seat = h.0;
    blocks = k.blocks;
    lines = k.lines;
    sound = k.sound;
    are_bytes = k.are_bytes;
    counted = sym (ap length k.starts);
    answers = sym k.k;
    loaded = subst (λ (z : LoadedMarks). AreBelow z m.ckpt m.write m.wtail m.flushed) (sym k.loaded) (record { ckpt_below = omega arith; write_below = omega arith; wtail_below = omega arith; flushed_below = omega arith });
    step = (let none = ap length k.starts ∙ sym k.k in ⊎_elim
        (λ z. subst (λ f. UserAt D c m start p seat u f) (sym z.step) (none, (let y = k.k in let x = z.some_lines in omega arith)))
        (λ z. subst (λ f. UserAt D c m start p seat u f) (sym z.step) (none, k.k ∙ sym z.no_lines, z.unchecked))
        k.step);
  }
  start_fits seat (actor.Writer s) h = subst (λ (z : WriterState). WriterFits D c m start p seat z) (sym h.1) (let e = W.even in record {
    alone = h.0;
    blocks = refl;
    tail = refl;
    write = sym W.write;
    from = ap (λ (q : ℕ). q * BLOCK_DATA) (lsn_block c.base);
    long = (let b = lsn_block c.base in omega arith);
    kept = λ j l. absurd (omega arith);
    wide = (let b = lsn_block c.base in omega arith);
    firsts = λ j l. absurd (omega arith);
    ckpt = omega arith;
    no_device_while_checking = λ z. refl;
    step = ((refl, P.written ∙ sym W.write), tt);
  })
  start_fits seat (actor.Flusher f) h = subst (λ (z : FlusherState). FlusherFits D c m start p seat z) (sym h.1) (record { alone = h.0; last = sym W.flushed; write = omega arith; no_device_while_checking = λ z. refl; step = tt })
  start_fits seat (actor.Closer t) h = λ e. let z : closer_step.Advance advance_step.LoadTail ≡ closer_step.Failed = sym (ap (λ (y : CloserState). y.step) h.1) ∙ e in absurd (cc)
  start_fits seat (actor.Cleaner v) h = let s : v.step ≡ cleaner_step.LoadFlushed = ap (λ (y : CleanerState). y.step) h.1 in
      ((λ e. let z : cleaner_step.LoadFlushed ≡ cleaner_step.Failed = sym s ∙ e in absurd (cc)), (λ e. let z : cleaner_step.LoadFlushed ≡ cleaner_step.StoreFailed = sym s ∙ e in absurd (cc)))
  start_fits seat (actor.Checkpointer t) h = subst (λ (z : CheckpointerState). CheckpointerFits D c m start p seat z) (sym h.1) (record { alone = h.0; own = sym W.ckpt; no_device_while_checking = λ z. refl; step = P.ckpt })
  start_fits seat (actor.Reader r) h = record {
    no_device_while_checking = λ z. absurd (let e : r.checks ≡ false = ap (λ (y : ReaderState). y.checks) h.3 in cc);
    step = subst (ReaderAt D c m start p r) (sym (ap (λ (y : ReaderState). y.step) h.3)) tt;
  }

  start_holds : (seat : ℕ) (a : Actor) → StartActor c seat_of writer seat a → holds a ≡ false
  start_holds seat (actor.Writer s) h = ap (λ (z : WriterState). holds (actor.Writer z)) h.1
  start_holds seat (actor.Flusher f) h = ap (λ (z : FlusherState). holds (actor.Flusher z)) h.1
  start_holds seat (actor.Checkpointer t) h = ap (λ (z : CheckpointerState). holds (actor.Checkpointer z)) h.1
  start_holds seat (actor.Reader r) h = ap (λ (z : ReaderState). holds (actor.Reader z)) h.3
  start_holds seat _ h = refl

  start_entries : (seat : ℕ) (a : Actor) → StartActor c seat_of writer seat a → entries a ≡ []
  start_entries seat (actor.User u) h = ap (entries_from u.user u.lines 0) (new_user_is c u h.1).starts
  start_entries seat _ h = refl

  start_free : (seat : ℕ) (a : Actor) → StartActor c seat_of writer seat a → ChecksWithoutTail a
  start_free seat a h = λ _ b. start_tail c seat_of writer seat a h b

  no_sum : (f : Actor → ℕ) (actors : List Actor) → ((i : ℕ) (a : Actor) → get_elem? actors i ≡ maybe.some a → f a ≡ 0) → sum_over_actors f actors ≡ 0
  no_sum f [] h = refl
  no_sum f (x ∷ xs) h = let a = h 0 x refl in let r = no_sum f xs (λ i b e. h (suc i) b e) in omega arith

  -- a run's start: the words and the part as opened, and actors that have done nothing
  pub half_starts : (actors : List Actor) → ((seat : ℕ) (a : Actor) → get_elem? actors seat ≡ maybe.some a → StartActor c seat_of writer seat a) → lsn (c.base + sum_over_actors left_to_reserve actors) < LSN_LIMIT → LogHalf D c m start p actors
  half_starts actors h room = record {
    sized = W.sized;
    global = start_global;
    each = λ j a z. start_fits j a (h j a z);
    turns = λ j a z held. let k : false ≡ true = sym (start_holds j a (h j a z)) ∙ held in absurd (cc);
    taken = λ d. (let z = W.device in absurd (omega arith));
    advanced = λ d. let z : false ≡ true = sym W.wheld ∙ d in absurd (cc);
    without_tail = λ j a z. start_free j a (h j a z);
    counted = λ w. no_sum (λ a. sum_of w (entries a)) actors (λ i a z. ap (sum_of w) (start_entries i a (h i a z)));
    room = subst (λ (n : ℕ). lsn (n + sum_over_actors left_to_reserve actors) < LSN_LIMIT) (sym W.sn) room;
  }
