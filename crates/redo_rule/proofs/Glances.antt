-- Each load of a reader keeps the rule.
use Rattle.std.proofs.Common.{Bool, List, None, Option, Some, [], ap, arith, cond, eq-eqb, eqb, eqb-true, false, length, ne_eqb, refl, subst, sym, true, ℕ, inl, inr, ⊎_elim, ◌*◌, ◌++◌, ◌+◌, ◌-◌, ◌<◌, ◌==◌, ◌^◌, ◌∙◌, ◌∷◌, ◌≡◌, ◌≢◌, ◌≤◌}
use Rattle.std.proofs.lemmas.List.{set-get_or}
use Rattle.std.proofs.lemmas.Option.{same_Some}
use Rattle.std.specs.List.{AllByRecursion}
use Rattle.std.specs.Prelude.{IfSome, slice_index, slice_set}
use lib.ListN.{get_elem?}
use mathlib.Core.Option as maybe
use native.Mathlib.Decide.{ℕ_discrete}
use Rattle.atomic_table.specs.Seated.{TableId}
use Rattle.atomic_table.specs.Table.{Allows, keeps, Me, State}
use Rattle.atomic_table.specs.declared.shared.Seat.{Seat}
use Rattle.model_core.proofs.WordNumbers.{index_below}
use Rattle.model_base.specs.declared.limits.TheConstants.{LSN_LIMIT}
use Rattle.model_core.proofs.Groups.{tiles_at}
use Rattle.model_core.proofs.Lsns.{sn_below}
use Rattle.model_core.specs.{end_of, flat, index, IsWord, layout_of, line_at, lsn, SharedWords, sn_at, UserState}
use Rattle.model_core.specs.States as model
use Rattle.model_core.specs.Layout.{frame_words}
use Rattle.model_core.specs.Setups.{Setup}
use Rattle.model_core.specs.declared.limits.TheConstants.{WORD_LANES}
use Rattle.model_core.specs.declared.words.Layout.{Layout}
use Rattle.model_core.specs.declared.words.Word.{Word}
use Rattle.model_core.specs.declared.words.Word.TheVariants as word
use Rattle.model_logcore.proofs.AnswersFit.{small_sn}
use Rattle.model_own.specs.ErrandFits.{has_work}
use Rattle.model_reads.proofs.Looking.{added_fits, begun_fits, dated_fits, freed_fits, read_fits}
use Rattle.model_reads.specs.{added, AreRead, begun, dated, freed, GlanceFits, ReadEndFits, newest_in, read_of}
use Rattle.model_reads.specs.declared.read.Glance.{Glance}
use Rattle.model_reads.specs.declared.read.ReadEnd.{ReadEnd}
use Rattle.model_reads.specs.declared.read.ReadEnd.TheVariants.{Failed, Page}
use Rattle.redo_disk.specs.{Call}
use Rattle.redo_disk.specs.Sight.{Seen}
use Rattle.redo_drive.proofs.FailureCode.{small_code}
use Rattle.redo_drive.proofs.Told.{none_of_user}
use Rattle.redo_drive.specs.Lists.{lists_of}
use Rattle.redo_drive.specs.Running.{run_data_side, run_log_side}
use Rattle.redo_rule.proofs.GrownScript.{all_snoc}
use Rattle.redo_rule.proofs.Kept as kept
use Rattle.redo_rule.proofs.Retook.{one_head}
use Rattle.redo_rule.specs.Handing.{HasHandedOn, HasRead, IsOfRun}
use Rattle.redo_rule.specs.Reading.{adds, begins, checks, dates, ends, frees, HasOwnBelow, IsAt, IsReading, MayRead, numbered_heard, view_heard, view_seats, with_glance, with_read}
use Rattle.redo_rule.specs.Ruled.{Ruled}
use Rattle.redo_rule.specs.declared.law.About.{About}
use Rattle.redo_rule.specs.declared.law.Errand.{Errand}
use Rattle.redo_rule.specs.declared.law.Heard.{Heard}
use Rattle.redo_rule.specs.declared.law.Numbered.{Numbered}
use Rattle.redo_rule.specs.declared.law.Slot.{Slot}
use Rattle.redo_rule.specs.declared.law.View.{View}

-- what each has heard, where one has heard this
abbrev heard_now : (ℕ → Heard) → (seat : ℕ) → Heard → ℕ → Heard
heard_now heard seat h n = cond (n == seat) h (heard n)

module _ {L D : Type 0} (log_seen : L → Seen) (log_gives : L → Call → L → Type 0) (data_seen : D → Seen)
    (data_gives : D → Call → D → Type 0) (about : About L D) (s : State (Slot L D) (View L D))
    (R : Ruled log_seen log_gives data_seen data_gives about s) (id : ℕ) (v : View L D) (x : Numbered)
    (sits : v.seats ≡ x ∷ []) (at : get_elem? s.views id ≡ maybe.some v) where
  abbrev c : Setup
  c = R.run.setup

  abbrev ws : List ℕ
  ws = R.parts.words.words

  abbrev Has : Heard → Type 0
  Has h = HasRead c ws R.runs.running.log_ghost.log h

  -- what is heard in the seat is what it knows of that
  its_heard : ◌≡◌ {A = Heard} (R.heard x.number) x.heard
  its_heard = ((kept.known log_seen log_gives data_seen data_gives about s R id v x sits at).mine 0 x
      (kept.first log_seen log_gives data_seen data_gives about s R id v x sits at)).2

  pub its_reads : Has x.heard
  its_reads = subst Has its_heard (R.reads x.number)

  module _ (h : Heard) (groups : h.groups ≡ x.heard.groups) (blocks : h.blocks ≡ x.heard.blocks) (has : Has h) where
    abbrev then : Numbered
    then = numbered_heard x h

    abbrev heard : ℕ → Heard
    heard = heard_now R.heard x.number h

    reads_by : (b : Bool) (n : ℕ) → Has (cond b h (R.heard n))
    reads_by true n = has
    reads_by false n = R.reads n

    -- the rest of what is heard is as it was
    hears_by : (b : Bool) (n : ℕ) → n == x.number ≡ b → (a : model.Actor)
        → HasHandedOn (run_log_side log_seen data_seen R.run) c.base R.runs.running.log_ghost.log a (R.heard n)
        → HasHandedOn (run_log_side log_seen data_seen R.run) c.base R.runs.running.log_ghost.log a (cond b h (R.heard n))
    hears_by true n same a o =
        let was : ◌≡◌ {A = Heard} (R.heard n) x.heard = ap R.heard (eqb-true n x.number same) ∙ its_heard in
        record {
          groups = groups ∙ ap (λ (z : Heard). z.groups) (sym was) ∙ o.groups;
          blocks = subst (AllByRecursion (IsOfRun (run_log_side log_seen data_seen R.run) c.base R.runs.running.log_ghost.log))
              (ap (λ (z : Heard). z.blocks) was ∙ sym blocks) o.blocks;
        }
    hears_by false n same a o = o

    left : kept.Leaves log_seen log_gives data_seen data_gives about s R id v x sits at then R.parts R.beside R.actors
        heard
    left =
        let known = kept.known log_seen log_gives data_seen data_gives about s R id v x sits at in
        let first = kept.first log_seen log_gives data_seen data_gives about s R id v x sits at in record {
          same = record { words = refl; lists = refl };
          run = R.run;
          is_about = R.is_about;
          runs = R.runs;
          own_is = refl;
          own = R.own;
          hears = λ told n a there. hears_by (n == x.number) n refl a (R.hears told n a there);
          reads = λ n. reads_by (n == x.number) n;
          loaded = R.loaded;
          count = refl;
          told = R.told;
          number = refl;
          here = kept.here log_seen log_gives data_seen data_gives about s R id v x sits at;
          its_heard = ap (λ (b : Bool). let z : Heard = cond b h (R.heard x.number) in z) (eq-eqb x.number x.number refl);
          free = kept.is_free log_seen log_gives data_seen data_gives about s R id v x sits at;
          sits = known.errand 0 x first;
          others = λ n e far still. (
            refl,
            ap (λ (b : Bool). let z : Heard = cond b h (R.heard n) in z) (ne_eqb n x.number far),
            still,
          );
        }

    -- THE RULE HOLDS once the seat has heard that
    pub rule_heard : Ruled log_seen log_gives data_seen data_gives about
        (record { words = s.words; homes = s.homes; views = slice_set s.views id (view_heard v x h) })
    rule_heard =
        let known = kept.known log_seen log_gives data_seen data_gives about s R id v x sits at in
        let first = kept.first log_seen log_gives data_seen data_gives about s R id v x sits at in
        subst (λ (words : List ℕ). Ruled log_seen log_gives data_seen data_gives about
        (record { words = words; homes = s.homes; views = slice_set s.views id (view_heard v x h) })) R.words_are
        (kept.kept_then log_seen log_gives data_seen data_gives about s R id v x sits at then R.parts R.beside R.actors
        heard left (view_heard v x h) R.out refl refl refl
        (λ k e. known.held 0 x k first e)
        (λ e some has_it. known.work 0 x e first some has_it)
        (λ d e. known.data_part d e)
        (λ n a k e ne still there held. refl)
        (λ n g ne still has_it. refl)
        (λ j w d ne there stored. (R.knows j w there).data_part d stored)
        s.homes R.lists_are R.log_calls R.data_calls refl R.slots
        (λ k low z. R.home k low (sym (ap (λ (words : List ℕ). slice_index words (7 + k)) R.words_are) ∙ z))
        R.data_home (λ k low busy. R.taken k low
        (λ z. busy (ap (λ (words : List ℕ). slice_index words (7 + k)) R.words_are ∙ z))))

  -- the words by name
  layout_is : v.layout ≡ layout_of c
  layout_is = kept.count log_seen log_gives data_seen data_gives about s R id v x sits at ∙ R.runs.running.layout_is

  -- a page of the seat's words is one of the run's
  pub its_page : (page : ℕ) → page < v.layout.pages → page < c.pages
  its_page page low = subst (λ (l : Layout). page < l.pages) layout_is low

  pub its_size : v.layout.page_size ≡ c.page_size
  its_size = ap (λ (l : Layout). l.page_size) layout_is

  -- what stands in a word that is numbered by the seat's layout
  pub its_word : (w : Word) (i : ℕ) → i ≡ index v.layout w
      → slice_index s.words i ≡ slice_index ws (index (layout_of c) w)
  its_word w i is = ap (slice_index s.words) (is ∙ ap (λ (l : Layout). index l w) layout_is)
      ∙ ap (λ (words : List ℕ). slice_index words (index (layout_of c) w)) (sym R.words_are)

  glance_fits : (g : Glance) → ◌≡◌ {A = Option Glance} x.heard.glance (Some g)
      → GlanceFits c ws R.runs.running.log_ghost.log g
  glance_fits g is = subst (λ (o : Option Glance). IfSome o (GlanceFits c ws R.runs.running.log_ghost.log)) is
      its_reads.now

  -- each group that the seat's user has reserved ends at or below SN
  own_below : (a : model.Actor) → get_elem? R.actors x.number ≡ maybe.some a → HasOwnBelow a R.runs.running.shared.sn
  own_below (model.User u) there = λ k low.
      let W = R.runs.running in
      let end : slice_index u.starts k + length (line_at u.lines k).bytes - W.shared.sn ≡ 0 =
      none_of_user log_seen data_seen R.run R.parts R.actors R.runs (λ e. end_of e - W.shared.sn)
      (λ i e is. let n = (tiles_at W.log_ghost.log c.base W.shared.sn i e W.both.logged.global.tiled.tiles is).1 in
      omega arith) x.number u there k low in omega arith
  own_below _ there = tt

-- A LOAD OF A WORD is a load of a reader.
module _ {L D : Type 0} (log_seen : L → Seen) (log_gives : L → Call → L → Type 0) (data_seen : D → Seen)
    (data_gives : D → Call → D → Type 0) (about : About L D) (slots id : ℕ) (me : Me (Slot L D) (View L D))
    (x : Numbered) (sits : me.0.seats ≡ x ∷ []) where
  abbrev Law : State (Slot L D) (View L D) → Type 0
  Law = Ruled log_seen log_gives data_seen data_gives about

  abbrev heard_as : Heard → Me (Slot L D) (View L D)
  heard_as h = (view_heard me.0 x h, me.1)

  -- WHAT IS PICKED in a state: what the seat has heard then
  record Picks (then : ℕ → Me (Slot L D) (View L D) → Type 0) (n : ℕ) (s : State (Slot L D) (View L D))
      (R : Law s) : Type 0 where
    pub heard : Heard
    pub groups : heard.groups ≡ x.heard.groups
    pub blocks : heard.blocks ≡ x.heard.blocks
    pub has : HasRead R.run.setup R.parts.words.words R.runs.running.log_ghost.log heard
    pub so : then n (heard_as heard)

  allows : (then : ℕ → Me (Slot L D) (View L D) → Type 0) (i : ℕ)
      → ((s : State (Slot L D) (View L D)) (R : Law s) → get_elem? s.views id ≡ maybe.some me.0
      → Picks then (slice_index s.words i) s R)
      → Allows Law slots id me i (λ n. n) then
  allows then i pick s R wide at small = let q = pick s R at in (
    view_heard me.0 x q.heard,
    keeps,
    tt,
    subst (λ (words : List ℕ). Law
        (record { words = words; homes = s.homes; views = slice_set s.views id (view_heard me.0 x q.heard) }))
        (sym (set-get_or s.words i 0))
        (rule_heard log_seen log_gives data_seen data_gives about s R id me.0 x sits at q.heard q.groups q.blocks q.has),
    q.so,
  )

  -- NEWEST is loaded first
  pub begin_allows : (page i : ℕ) → page < me.0.layout.pages → i ≡ index me.0.layout (word.Newest page)
      → Allows Law slots id me i (λ n. n) (begins page me)
  begin_allows page i there is = allows (begins page me) i (λ s R at.
      let W = R.runs.running in
      let n : ℕ = slice_index s.words i in record {
        heard = with_glance x.heard (begun page n);
        groups = refl;
        blocks = refl;
        has = record {
          done = (its_reads log_seen log_gives data_seen data_gives about s R id me.0 x sits at).done;
          now = begun_fits (run_log_side log_seen data_seen R.run) (run_data_side log_seen data_seen R.run) R.run.setup
              W.shared W.log_ghost W.page_ghost (lists_of R.parts.lists) R.parts.log R.parts.store R.actors W.both
              R.parts.words.words W.flat_is page n
              (its_page log_seen log_gives data_seen data_gives about s R id me.0 x sits at page there)
              (its_word log_seen log_gives data_seen data_gives about s R id me.0 x sits at (word.Newest page) i is);
        };
        so = λ y one. (let seat : ◌≡◌ {A = Numbered} x y = one_head me.0.seats x y sits one in
            λ j. (view_heard me.0 (seat j) (with_glance (seat j).heard (begun page n)), me.1));
      })

  -- what the seat has heard is what it has
  still : heard_as x.heard ≡ me
  still = ap (λ (l : List Numbered). let m : Me (Slot L D) (View L D) = (view_seats me.0 l, me.1) in m) (sym sits)

  -- nothing changes
  idle : (then : ℕ → Me (Slot L D) (View L D) → Type 0) (n : ℕ) (s : State (Slot L D) (View L D)) (R : Law s)
      → get_elem? s.views id ≡ maybe.some me.0 → then n me → Picks then n s R
  idle then n s R at so = record {
    heard = x.heard;
    groups = refl;
    blocks = refl;
    has = its_reads log_seen log_gives data_seen data_gives about s R id me.0 x sits at;
    so = subst (then n) (sym still) so;
  }

  -- FAILED is loaded
  pub check_allows : (i : ℕ) → i ≡ index me.0.layout word.Failed → Allows Law slots id me i (λ n. n) (checks me)
  check_allows i is = allows (checks me) i (λ s R at. by s R at (ℕ_discrete (slice_index s.words i) 0))
    where
      is_small : (s : State (Slot L D) (View L D)) (R : Law s) → get_elem? s.views id ≡ maybe.some me.0
          → slice_index s.words i < 2 ^ 32
      is_small s R at = subst (λ (n : ℕ). n < 2 ^ 32)
          (sym (its_word log_seen log_gives data_seen data_gives about s R id me.0 x sits at word.Failed i is))
          (small_code log_seen data_seen R.run R.parts R.actors R.runs)

      by : (s : State (Slot L D) (View L D)) (R : Law s) → get_elem? s.views id ≡ maybe.some me.0
          → Dec (slice_index s.words i ≡ 0) → Picks (checks me) (slice_index s.words i) s R
      by s R at (yes none) = idle (checks me) (slice_index s.words i) s R at
          (is_small s R at, (λ z. refl), (λ some. absurd (some none)))
      by s R at (no some) =
          let word_is = its_word log_seen log_gives data_seen data_gives about s R id me.0 x sits at word.Failed i is in
          record {
            heard = with_read x.heard (Failed (slice_index s.words i));
            groups = refl;
            blocks = refl;
            has = record {
              done = all_snoc (ReadEndFits R.run.setup R.parts.words.words R.runs.running.log_ghost.log) x.heard.reads
                  (Failed (slice_index s.words i))
                  (its_reads log_seen log_gives data_seen data_gives about s R id me.0 x sits at).done
                  (omega arith, omega arith);
              now = tt;
            };
            so = (
              is_small s R at,
              (λ none. absurd (some none)),
              (λ z y one. let seat : ◌≡◌ {A = Numbered} x y = one_head me.0.seats x y sits one in
                  λ j. (view_heard me.0 (seat j) (with_read (seat j).heard (Failed (slice_index s.words i))), me.1)),
            );
          }

  module _ (g : Glance) (is_g : ◌≡◌ {A = Option Glance} x.heard.glance (Some g)) where
    its_seat : (y : Numbered) (k : Glance) → IsReading me.0 y k → ◌≡◌ {A = Numbered} x y
    its_seat y k o = one_head me.0.seats x y sits o.0

    its_glance : (y : Numbered) (k : Glance) → IsReading me.0 y k → ◌≡◌ {A = Glance} g k
    its_glance y k o = same_Some g k
        (sym is_g ∙ ap (λ (z : Numbered). z.heard.glance) (its_seat y k o) ∙ o.1)

    -- a load that leaves what is read with another glance
    glanced : (k : Glance) (y : Numbered) (l : Glance) → IsReading me.0 y l → (f : Glance → Glance) → f g ≡ k
        → heard_as (with_glance x.heard k) ≡ (view_heard me.0 y (with_glance y.heard (f l)), me.1)
    glanced k y l o f is =
        subst (λ (z : Numbered). heard_as (with_glance x.heard k) ≡ (view_heard me.0 z (with_glance z.heard (f l)), me.1))
        (its_seat y l o)
        (subst (λ (z : Glance). heard_as (with_glance x.heard k) ≡ heard_as (with_glance x.heard (f z)))
        (its_glance y l o) (ap (λ (z : Glance). heard_as (with_glance x.heard z)) (sym is)))

    pub add_allows : (i : ℕ) → i ≡ index me.0.layout (word.Frame g.page (length g.words))
        → length g.words < frame_words me.0.layout.page_size → Allows Law slots id me i (λ n. n) (adds me)
    add_allows i is room = allows (adds me) i (λ s R at.
        let W = R.runs.running in
        let n : ℕ = slice_index s.words i in
        let size = its_size log_seen log_gives data_seen data_gives about s R id me.0 x sits at in record {
          heard = with_glance x.heard (added g n);
          groups = refl;
          blocks = refl;
          has = record {
            done = (its_reads log_seen log_gives data_seen data_gives about s R id me.0 x sits at).done;
            now = added_fits (run_log_side log_seen data_seen R.run) (run_data_side log_seen data_seen R.run) R.run.setup
                W.shared W.log_ghost W.page_ghost (lists_of R.parts.lists) R.parts.log R.parts.store R.actors W.both
                R.parts.words.words W.flat_is g n
                (glance_fits log_seen log_gives data_seen data_gives about s R id me.0 x sits at g is_g)
                (subst (λ (z : ℕ). length g.words < frame_words z) size room)
                (its_word log_seen log_gives data_seen data_gives about s R id me.0 x sits at
                (word.Frame g.page (length g.words)) i is);
          };
          so = λ y l o. glanced (added g n) y l o (λ (z : Glance). added z n) refl;
        })

    pub date_allows : (i : ℕ) → i ≡ index me.0.layout word.Sn → Allows Law slots id me i (λ n. n) (dates me)
    date_allows i is = allows (dates me) i (λ s R at.
        let W = R.runs.running in
        let n : ℕ = slice_index s.words i in
        let found : n ≡ slice_index R.parts.words.words sn_at =
        its_word log_seen log_gives data_seen data_gives about s R id me.0 x sits at word.Sn i is in
        let top : n ≡ W.shared.sn = found ∙ ap (λ (words : List ℕ). slice_index words sn_at) W.flat_is in
        let small = small_sn (run_log_side log_seen data_seen R.run) R.run.setup W.shared W.log_ghost R.parts.log R.actors
        0 W.both.logged in
        let low = sn_below W.shared.sn W.shared.sn LSN_LIMIT (omega arith) small in
        let below : HasOwnBelow x.actor n = subst (HasOwnBelow x.actor) (sym top)
        (own_below log_seen log_gives data_seen data_gives about s R id me.0 x sits at x.actor
        (kept.here log_seen log_gives data_seen data_gives about s R id me.0 x sits at)) in record {
          heard = with_glance x.heard (dated g n);
          groups = refl;
          blocks = refl;
          has = record {
            done = (its_reads log_seen log_gives data_seen data_gives about s R id me.0 x sits at).done;
            now = dated_fits (run_log_side log_seen data_seen R.run) (run_data_side log_seen data_seen R.run) R.run.setup
                W.shared W.log_ghost W.page_ghost (lists_of R.parts.lists) R.parts.log R.parts.store R.actors W.both
                R.parts.words.words W.flat_is g n
                (glance_fits log_seen log_gives data_seen data_gives about s R id me.0 x sits at g is_g) found;
          };
          so = λ y l o. (
            (omega arith),
            subst (λ (z : Numbered). HasOwnBelow z.actor n) (its_seat y l o) below,
            glanced (dated g n) y l o (λ (z : Glance). dated z n) refl,
          );
        })

    pub free_allows : (i : ℕ) → i ≡ index me.0.layout (word.Latch g.page) → Allows Law slots id me i (λ n. n) (frees me)
    free_allows i is = allows (frees me) i (λ s R at. by s R at (ℕ_discrete (slice_index s.words i) 0))
      where
        by : (s : State (Slot L D) (View L D)) (R : Law s) → get_elem? s.views id ≡ maybe.some me.0
            → Dec (slice_index s.words i ≡ 0) → Picks (frees me) (slice_index s.words i) s R
        by s R at (yes free) =
            let W = R.runs.running in record {
              heard = with_glance x.heard (freed g);
              groups = refl;
              blocks = refl;
              has = record {
                done = (its_reads log_seen log_gives data_seen data_gives about s R id me.0 x sits at).done;
                now = freed_fits (run_log_side log_seen data_seen R.run) (run_data_side log_seen data_seen R.run)
                    R.run.setup W.shared W.log_ghost W.page_ghost (lists_of R.parts.lists) R.parts.log R.parts.store
                    R.actors W.both R.parts.words.words W.flat_is g
                    (glance_fits log_seen log_gives data_seen data_gives about s R id me.0 x sits at g is_g)
                    (sym (its_word log_seen log_gives data_seen data_gives about s R id me.0 x sits at
                    (word.Latch g.page) i is) ∙ free);
              };
              so = λ y l o. ((λ z. glanced (freed g) y l o freed refl), (λ other. absurd (other free)));
            }
        by s R at (no held) = idle (frees me) (slice_index s.words i) s R at
            (λ y l o. ((λ free. absurd (held free)), (λ z. refl)))

    pub end_allows : (i : ℕ) → i ≡ index me.0.layout (word.Newest g.page) → g.seen_free ≡ true
        → WORD_LANES * length g.words ≡ me.0.layout.page_size → Allows Law slots id me i (λ n. n) (ends me)
    end_allows i is seen long = allows (ends me) i (λ s R at. by s R at (ℕ_discrete (slice_index s.words i) g.newest))
      where
        same_newest : (y : Numbered) (l : Glance) → IsReading me.0 y l → l.newest ≡ g.newest
        same_newest y l o = ap (λ (z : Glance). z.newest) (sym (its_glance y l o))

        by : (s : State (Slot L D) (View L D)) (R : Law s) → get_elem? s.views id ≡ maybe.some me.0
            → Dec (slice_index s.words i ≡ g.newest) → Picks (ends me) (slice_index s.words i) s R
        by s R at (yes same) =
            let W = R.runs.running in
            let size = its_size log_seen log_gives data_seen data_gives about s R id me.0 x sits at in
            let fits = glance_fits log_seen log_gives data_seen data_gives about s R id me.0 x sits at g is_g in record {
              heard = with_read x.heard (Page (read_of g));
              groups = refl;
              blocks = refl;
              has = record {
                done = all_snoc (ReadEndFits R.run.setup R.parts.words.words W.log_ghost.log) x.heard.reads
                    (Page (read_of g))
                    (its_reads log_seen log_gives data_seen data_gives about s R id me.0 x sits at).done
                    (read_fits (run_log_side log_seen data_seen R.run) (run_data_side log_seen data_seen R.run)
                    R.run.setup W.shared W.log_ghost W.page_ghost (lists_of R.parts.lists) R.parts.log R.parts.store
                    R.actors W.both R.parts.words.words W.flat_is g fits seen (long ∙ size)
                    (sym (its_word log_seen log_gives data_seen data_gives about s R id me.0 x sits at
                    (word.Newest g.page) i is) ∙ same));
                now = tt;
              };
              so = λ y l o. (
                (λ z. let seat = its_seat y l o in let one = its_glance y l o in
                    λ j. (view_heard me.0 (seat j) (with_read (seat j).heard (Page (read_of (one j)))), me.1)),
                (λ other. absurd (other (same ∙ sym (same_newest y l o)))),
              );
            }
        by s R at (no other) = idle (ends me) (slice_index s.words i) s R at
            (λ y l o. ((λ same. absurd (other (same ∙ same_newest y l o))), (λ z. refl)))

-- A LOAD MAY BE MADE in a seat at the table.
module _ {L D : Type 0} (log_seen : L → Seen) (log_gives : L → Call → L → Type 0) (data_seen : D → Seen)
    (data_gives : D → Call → D → Type 0) (about : About L D) (table : TableId) (seat : Seat (Slot L D) (View L D))
    (layout : Layout) (page : ℕ) where
  abbrev pub Asks : ℕ → (ℕ → Me (Slot L D) (View L D) → Type 0) → Type 0
  Asks i then = (seat.table_id ≡ table) × (i < table.words)
      × Allows (Ruled log_seen log_gives data_seen data_gives about) table.slots seat.id seat.me i (λ n. n) then

  asks : MayRead table seat layout page → (w : Word) (i : ℕ) → IsWord layout w → i ≡ index layout w
      → (then : ℕ → Me (Slot L D) (View L D) → Type 0)
      → Allows (Ruled log_seen log_gives data_seen data_gives about) table.slots seat.id seat.me i (λ n. n) then
      → Asks i then
  asks o w i named is then allowed = (
    o.of,
    (let b = index_below layout w named in let n = o.words in omega arith),
    allowed,
  )

  named_in : MayRead table seat layout page → (w : Word) (i : ℕ) → i ≡ index layout w → i ≡ index seat.me.0.layout w
  named_in o w i is = is ∙ ap (λ (l : Layout). index l w) (sym o.layout_is)

  pub check_ok : MayRead table seat layout page → (i : ℕ) → i ≡ index layout word.Failed → Asks i (checks seat.me)
  check_ok o i is = asks o word.Failed i tt is (checks seat.me)
      (check_allows log_seen log_gives data_seen data_gives about table.slots seat.id seat.me o.who o.sits i
      (named_in o word.Failed i is))

  pub begin_ok : MayRead table seat layout page → (i : ℕ) → i ≡ index layout (word.Newest page)
      → Asks i (begins page seat.me)
  begin_ok o i is = asks o (word.Newest page) i o.there is (begins page seat.me)
      (begin_allows log_seen log_gives data_seen data_gives about table.slots seat.id seat.me o.who o.sits page i
      (subst (λ (l : Layout). page < l.pages) (sym o.layout_is) o.there) (named_in o (word.Newest page) i is))

  module _ (g : Glance) (o : IsAt table seat layout page g) where
    pub add_ok : (number i : ℕ) → length g.words ≡ number → number < frame_words layout.page_size
        → i ≡ index layout (word.Frame page number) → Asks i (adds seat.me)
    add_ok number i count room is = asks o.may (word.Frame page number) i (o.may.there, room) is (adds seat.me)
        (add_allows log_seen log_gives data_seen data_gives about table.slots seat.id seat.me o.may.who o.may.sits g
        o.reading i (named_in o.may (word.Frame page number) i is
        ∙ ap (λ (k : ℕ). index seat.me.0.layout (word.Frame page k)) (sym count)
        ∙ ap (λ (p : ℕ). index seat.me.0.layout (word.Frame p (length g.words))) (sym o.its_page))
        (subst (λ (l : Layout). length g.words < frame_words l.page_size) (sym o.may.layout_is) (omega arith)))

    pub date_ok : (i : ℕ) → i ≡ index layout word.Sn → Asks i (dates seat.me)
    date_ok i is = asks o.may word.Sn i tt is (dates seat.me)
        (date_allows log_seen log_gives data_seen data_gives about table.slots seat.id seat.me o.may.who o.may.sits g
        o.reading i (named_in o.may word.Sn i is))

    pub free_ok : (i : ℕ) → i ≡ index layout (word.Latch page) → Asks i (frees seat.me)
    free_ok i is = asks o.may (word.Latch page) i o.may.there is (frees seat.me)
        (free_allows log_seen log_gives data_seen data_gives about table.slots seat.id seat.me o.may.who o.may.sits g
        o.reading i (named_in o.may (word.Latch page) i is
        ∙ ap (λ (p : ℕ). index seat.me.0.layout (word.Latch p)) (sym o.its_page)))

    pub end_ok : (i : ℕ) → i ≡ index layout (word.Newest page) → g.seen_free ≡ true
        → WORD_LANES * length g.words ≡ layout.page_size → Asks i (ends seat.me)
    end_ok i is seen long = asks o.may (word.Newest page) i o.may.there is (ends seat.me)
        (end_allows log_seen log_gives data_seen data_gives about table.slots seat.id seat.me o.may.who o.may.sits g
        o.reading i (named_in o.may (word.Newest page) i is
        ∙ ap (λ (p : ℕ). index seat.me.0.layout (word.Newest p)) (sym o.its_page)) seen
        (long ∙ ap (λ (l : Layout). l.page_size) (sym o.may.layout_is)))
