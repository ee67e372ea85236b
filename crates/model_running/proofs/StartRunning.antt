-- A run's start: both halves of the invariant hold.
use Rattle.model_running.proofs.ReadStart.{archiver_starts, candidate_starts, reader_starts, starts_in_run, starts_under}
use Rattle.model_running.specs.ReadHalf.{NumberAt, ReadFits, RunBlockAt, StaysInRun}
use Rattle.std.proofs.Common.{List, [], ap, arith, false, get_or, length, refl, subst, sym, ℕ, ◌+◌, ◌<◌, ◌≡◌, ◌≢◌}
use lib.ListN.{get_elem?}
use mathlib.Core.Option.{some, some-ne-none}
use Rattle.model_base.specs.declared.limits.TheConstants.{LSN_LIMIT}
use Rattle.model_core.specs.{Actor, change_at, CheckpointerState, CleanerState, CloserState, flat, layout_of, Line, line_at, LoadedMarks, lsn, PageWords, ReaderState, SharedWords, DataSide, LogSide, Setup, start_checkpoint}
use Rattle.model_logcore.proofs.DeviceSteps.{alone}
use Rattle.model_logcore.proofs.NewUsers.{new_step, new_user_is}
use Rattle.model_logcore.proofs.StartHolds.{half_starts, start}
use Rattle.model_logcore.specs.{checkpointer_start, cleaner_start, closer_start, left_to_reserve, StartActor, sum_over_actors}
use Rattle.model_pagecore.proofs.PageStart.{pages_start}
use Rattle.model_pagecore.specs.{CheckpointerPageFits, CleanerFits, CloserFits, PageFits, PageGhost, UserPagesAt, UserClosingAt}
use Rattle.model_running.specs.Watermarks.{BothHalves, RunningStore, HandIsClosed}
use Rattle.model_running.specs.StartStore.{StartStore}
use Rattle.model_core.specs.States as actor

abbrev pub start_pages : Setup → PageGhost
start_pages c = record {
  closed = λ _. false;
  holder = λ _. 0;
  list_holder = λ _. 0;
  given = start_checkpoint c;
  tail = lsn c.base;
  advancer = 0;
  kept_page = c.opened;
  unfinished = [];
}

module _ (D : LogSide) (E : DataSide) (c : Setup) (m : SharedWords) (p : D.Part) (d : E.Part) (seat_of : ℕ → ℕ) (writer : ℕ) (actors : List Actor) (S : StartStore D E c m p d seat_of writer actors) where
  closer_fits : (seat : ℕ) (t : CloserState) → seat ≡ c.closer → ◌≡◌ {A = CloserState} t (closer_start c) → CloserFits E c m [] (start_pages c) (λ _. []) d seat t
  closer_fits seat t alone is = subst (λ (z : CloserState). CloserFits E c m [] (start_pages c) (λ _. []) d seat z) (sym is) (record { alone = alone; loaded = omega arith; step = tt })

  cleaner_fits : (seat : ℕ) (v : CleanerState) → seat ≡ c.cleaner → ◌≡◌ {A = CleanerState} v (cleaner_start c) → CleanerFits E c m [] (start_pages c) (λ _. []) d seat v
  cleaner_fits seat v alone is = subst (λ (z : CleanerState). CleanerFits E c m [] (start_pages c) (λ _. []) d seat z) (sym is) (record {
    alone = alone;
    pages = refl;
    page_size = refl;
    slots = refl;
    page = S.some_page;
    flushed = omega arith;
    sound = λ _. (S.sound, refl);
    apart = λ i j x y at. absurd (some-ne-none x (sym at));
    few = omega arith;
    cause = λ step. absurd (cc);
    step = tt;
  })

  checkpointer_fits : (seat : ℕ) (t : CheckpointerState) → seat ≡ c.checkpointer → c.log_only ≡ false → ◌≡◌ {A = CheckpointerState} t (checkpointer_start c) → CheckpointerPageFits E c m [] (start_pages c) (λ _. []) d seat t
  checkpointer_fits seat t alone with_pages is = subst (λ (z : CheckpointerState). CheckpointerPageFits E c m [] (start_pages c) (λ _. []) d seat z) (sym is) (record {
    alone = alone;
    with_pages = with_pages;
    loaded = (omega arith, omega arith);
    given = λ _. refl;
    step = tt;
  })

  page_fits : (seat : ℕ) (a : Actor) → get_elem? actors seat ≡ some a → StartActor c seat_of writer seat a → PageFits E c m [] (start_pages c) (λ _. []) d seat a
  page_fits seat (actor.User u) at h = let k = new_user_is c u h.1 in record {
    there = λ j i l. subst (λ (ls : List Line). i < length (line_at ls j).changes → (change_at (line_at ls j).changes i).page < c.pages) (sym k.lines) (S.script.there u.user j i) l;
    apart = λ j i n l r. subst (λ (ls : List Line). i < n → n < length (line_at ls j).changes → (change_at (line_at ls j).changes i).page ≢ (change_at (line_at ls j).changes n).page) (sym k.lines) (S.script.apart u.user j i n) l r;
    within = λ j n i l. subst (λ (ls : List Line). n < length (line_at ls j).changes → (get_or (change_at (line_at ls j).changes n).cells i (record { at = 0; value = 0 })).at < c.page_size) (sym k.lines) (S.script.within u.user j n i) l;
    ascending = λ j n a b lt l. subst (λ (ls : List Line). b < length (change_at (line_at ls j).changes n).cells → (get_or (change_at (line_at ls j).changes n).cells a (record { at = 0; value = 0 })).at < (get_or (change_at (line_at ls j).changes n).cells b (record { at = 0; value = 0 })).at) (sym k.lines) (S.script.ascending u.user j n a b lt) l;
    are_bytes = λ j n i. subst (λ (ls : List Line). (get_or (change_at (line_at ls j).changes n).cells i (record { at = 0; value = 0 })).value < 256) (sym k.lines) (S.script.are_bytes u.user j n i);
    loaded = (let z : u.loaded.ctail ≡ 0 = ap (λ (z : LoadedMarks). z.ctail) k.loaded in omega arith);
    closing = new_step c u h.1 (λ f. UserClosingAt E c m [] (start_pages c) (λ _. []) d seat u.advance f) tt tt;
    step = new_step c u h.1 (λ f. UserPagesAt E c m [] (start_pages c) (λ _. []) d seat u f) tt tt;
  }
  page_fits seat (actor.Writer s) at h = tt
  page_fits seat (actor.Flusher t) at h = tt
  page_fits seat (actor.Reader t) at h = tt
  page_fits seat (actor.Closer t) at h = closer_fits seat t h.0 h.1
  page_fits seat (actor.Cleaner v) at h = cleaner_fits seat v h.0 h.1
  page_fits seat (actor.Checkpointer t) at h = checkpointer_fits seat t h.0 (S.with_pages seat t at) h.1

  read_fits : (seat : ℕ) (a : Actor) → StartActor c seat_of writer seat a → ReadFits c m [] seat a
  read_fits seat (actor.Checkpointer t) h = candidate_starts c m S.words.even S.words.flushed S.words.places t h.1
  read_fits seat (actor.Reader r) h = reader_starts c m S.words.even S.words.flushed S.words.places seat r h.0 h.1 h.2 (let high = h.2 in let few = S.script.few_readers in omega arith) h.3
  read_fits seat (actor.User u) h = tt
  read_fits seat (actor.Writer s) h = tt
  read_fits seat (actor.Flusher s) h = tt
  read_fits seat (actor.Closer s) h = tt
  read_fits seat (actor.Cleaner s) h = tt

  start_in_run : (seat : ℕ) (a : Actor) → StartActor c seat_of writer seat a → StaysInRun c a
  start_in_run seat (actor.Checkpointer t) h = (
    ap (λ (x : CheckpointerState). x.first) h.1,
    ap (λ (x : CheckpointerState). x.last) h.1,
    subst (NumberAt t) (sym (ap (λ (x : CheckpointerState). x.step) h.1)) tt,
  )
  start_in_run seat (actor.Reader r) h = starts_in_run c S.words.even r h.1 h.2 h.3
  start_in_run seat (actor.User u) h = tt
  start_in_run seat (actor.Writer s) h = tt
  start_in_run seat (actor.Flusher s) h = tt
  start_in_run seat (actor.Closer s) h = tt
  start_in_run seat (actor.Cleaner s) h = tt

  pub both_start : lsn (c.base + sum_over_actors left_to_reserve actors) < LSN_LIMIT → BothHalves D E c m (start D c m p seat_of writer S.words S.log_part) (start_pages c) (λ _. []) p d actors
  both_start room = let w = S.words in let f = w.failed in record {
    script = S.script;
    cause = λ some_code. absurd (omega arith);
    logged = half_starts D c m p seat_of writer S.words S.log_part actors S.each room;
    asked = (let z = S.log_part.asked in omega arith);
    latches = λ q there latched. let free = ap (λ (x : PageWords). x.latch) (S.page_words.page_words q there) in absurd (omega arith);
    in_run = λ seat a at. start_in_run seat a (S.each seat a at);
    reading = λ _. record {
      asked = λ i low high. (let z = S.log_part.asked in let few = S.script.few_readers in let u = starts_under c m w.even w.flushed w.places i (omega arith) in omega arith);
      each = λ seat a at. read_fits seat a (S.each seat a at);
    };
    archiver = λ seat r at kind. let h : StartActor c seat_of writer seat (actor.Reader r) = S.each seat (actor.Reader r) at in
        archiver_starts c m w.even w.flushed r h.3 kind;
    blocks = λ _ seat r at _. let h : StartActor c seat_of writer seat (actor.Reader r) = S.each seat (actor.Reader r) at in
        subst (RunBlockAt D c [] r) (sym (ap (λ (x : ReaderState). x.step) h.3)) tt;
    stays = λ _. w.ckpt;
    advanced = λ held. let free = S.page_words.cheld in absurd (cc);
    closed = λ seat u at. record {
      answered = λ i e is. absurd (some-ne-none e (sym is));
      in_hand = new_step c u (S.each seat (actor.User u) at).1 (λ f. HandIsClosed (λ _. false) u f) tt tt;
    };
    paged = pages_start E c m (D.stable p) (start_pages c) d actors (record {
      page_words = S.page_words.page_words;
      frames = S.page_words.frames;
      early = S.page_words.early;
      sn = w.sn;
      stable_is = S.log_part.stable;
      flushed = w.flushed;
      ctail = S.page_words.ctail;
      clinks = S.page_words.clinks;
      tail = refl;
      closed = λ _. refl;
      given = omega arith;
      kept_page = λ _. refl;
      stored = S.stored;
      all_written = refl;
    }) (λ seat a at. page_fits seat a at (S.each seat a at));
  }

  pub store_starts : (ws : List ℕ) → ws ≡ flat m → lsn (c.base + sum_over_actors left_to_reserve actors) < LSN_LIMIT → RunningStore D E c (layout_of c) ws (λ _. []) p d actors
  store_starts ws is room = record { shared = m; log_ghost = start D c m p seat_of writer S.words S.log_part; page_ghost = start_pages c; layout_is = refl; flat_is = is; both = both_start room }
