-- A line that is handed in keeps the rule.
use Rattle.std.proofs.Common.{Bool, is_some, List, None, Option, Some, [], ap, arith, drop, false, length, length-append, length-set, refl, set, subst, suc, sym, true, zero, ℕ, ⊎_elim, ◌*◌, ◌++◌, ◌+◌, ◌<◌, ◌∙◌, ◌∷◌, ◌≡◌, ◌≢◌, ◌≤◌}
use Rattle.std.proofs.Math.ListN.{get_or-append}
use Rattle.std.proofs.Math.Nat.{suc-mul}
use Rattle.std.proofs.Math.Seq.{get_or-append_seam}
use Rattle.std.proofs.lemmas.List.{get_or_past, set-get_or}
use Rattle.std.proofs.lemmas.Option.{same_Some}
use Rattle.std.specs.List.{AllByRecursion}
use Rattle.std.specs.Prelude.{IfSome, slice_index, slice_set}
use lib.ListN.{get_elem?}
use mathlib.Core.Option as maybe
use native.Mathlib.Decide.{dec_le, ℕ_discrete}
use Rattle.atomic_table.specs.Table.{Allows, keeps, Me, State}
use Rattle.model_base.specs.{IsWithinLimits}
use Rattle.model_base.specs.declared.limits.TheConstants.{LSN_LIMIT, MAX_GROUP}
use Rattle.model_base.specs.declared.shape.Shape.{Shape}
use Rattle.model_core.proofs.Collected.{group_has_text}
use Rattle.model_core.proofs.Groups.{changed_else, changed_here}
use Rattle.model_core.proofs.Lists.{at_set, set_at, set_else}
use Rattle.model_core.proofs.Lsns.{lsn_le}
use Rattle.model_core.specs.{Actor, holds_tail, IsScripted, Line, line_at, line_of, lsn, SharedWords, UserState, GivesFailed, hand, HoldsNothing, IsFreeToCheck, user_hand, Setup}
use Rattle.model_core.specs.States as model
use Rattle.model_core.specs.declared.steps.UserStep.{UserStep}
use Rattle.model_core.specs.declared.steps.UserStep.TheVariants as user_step
use Rattle.model_core.specs.declared.words.LinkBuffer.{LinkBuffer}
use Rattle.model_core.specs.declared.words.LinkBuffer.TheVariants as link_buffer
use Rattle.model_logcore.proofs.Frame.{total_set}
use Rattle.model_logcore.proofs.LinesTotal.{all_bytes, lines_total}
use Rattle.model_logcore.proofs.TakesLine.{Agree, AreSound, grown}
use Rattle.model_logcore.specs.{left_to_reserve, lengths, sum_over_actors, UserAt, UserFits}
use Rattle.model_parts.proofs.Bytes.{group-bytes}
use Rattle.model_running.proofs.Scripted as scripts
use Rattle.model_running.proofs.TakesLines.{AreFit, both_take_lines, bytes_take_lines, seats_take_lines}
use Rattle.model_running.specs.{IsOfScript, IsRunning}
use Rattle.model_script.specs.{group_of, IsScriptLine, LineFits}
use Rattle.model_script.specs.declared.script.ScriptLine.{ScriptLine}
use Rattle.model_store.specs.{Reading}
use Rattle.model_theorem.specs.{IsStart}
use Rattle.redo_disk.specs.{Call, Seen}
use Rattle.redo_drive.proofs.UserLines.{few_modes, of_user}
use Rattle.redo_drive.specs.Beginning.{HaveBegun, IsRunWith}
use Rattle.redo_drive.specs.{RunOf, run_log_side, RunsWith, HasReading}
use Rattle.redo_rule.proofs.GrownScript.{all_snoc, of_grown}
use Rattle.redo_rule.proofs.Kept as kept
use Rattle.redo_rule.proofs.OwnStays.{work_beside}
use Rattle.redo_rule.proofs.PagesRead.{reads_grown}
use Rattle.redo_rule.proofs.Retook.{one_head}
use Rattle.redo_rule.specs.HandIn.{handed_in, line_about, numbered_with, view_with, with_line}
use Rattle.redo_rule.specs.Handing.{HasHandedOn, HaveHandedOn, HaveLoaded}
use Rattle.redo_rule.specs.Lively.{HasRoom}
use Rattle.redo_rule.specs.OwnSide.{SitsAs}
use Rattle.redo_rule.specs.Ruled.{IsRunAbout, IsSlotHeld, Ruled, starts_about}
use Rattle.redo_rule.specs.declared.law.About.{About}
use Rattle.redo_rule.specs.declared.law.Errand.{Errand}
use Rattle.redo_rule.specs.declared.law.Heard.{Heard}
use Rattle.redo_rule.specs.declared.law.Live.{Live}
use Rattle.redo_rule.specs.declared.law.Numbered.{Numbered}
use Rattle.redo_rule.specs.declared.law.Slot.{Slot}
use Rattle.redo_rule.specs.declared.law.View.{View}

abbrev no_line : Line
no_line = record { mode = 0; bytes = []; changes = [] }

-- one line more: its bytes, and those that may be reserved once all before it are
lengths_snoc : (ls : List Line) (x : Line) → lengths (ls ++ x ∷ []) ≡ lengths ls + length x.bytes
lengths_snoc [] x = omega arith
lengths_snoc (y ∷ ys) x = let r = lengths_snoc ys x in omega arith

none_left : (ls : List Line) (n : ℕ) → n ≡ length ls → lengths (drop n ls) ≡ 0
none_left [] zero is = refl
none_left [] (suc n) is = refl
none_left (y ∷ ys) zero is = absurd (omega arith)
none_left (y ∷ ys) (suc n) is = none_left ys n (omega arith)

last_left : (ls : List Line) (x : Line) (n : ℕ) → n ≡ length ls → lengths (drop n (ls ++ x ∷ [])) ≡ length x.bytes
last_left [] x zero is = omega arith
last_left [] x (suc n) is = absurd (omega arith)
last_left (y ∷ ys) x zero is = absurd (omega arith)
last_left (y ∷ ys) x (suc n) is = last_left ys x n (omega arith)

-- a sum of so many numbers, each of which is at most that
sum_at_most : (f : Actor → ℕ) (most : ℕ) (actors : List Actor)
    → ((i : ℕ) (a : Actor) → get_elem? actors i ≡ maybe.some a → f a ≤ most)
    → sum_over_actors f actors ≤ length actors * most
sum_at_most f most [] each = omega arith
sum_at_most f most (a ∷ others) each =
    let here = each 0 a refl in let less = sum_at_most f most others (λ i b at. each (suc i) b at) in
    omega (arith, suc-mul (length others) most)

told_still : {A : Type 0} (P Q : A → Type 0) (o : Option A) → ((x : A) → P x → Q x) → IfSome o P → IfSome o Q
told_still P Q None f p = tt
told_still P Q (Some x) f p = f x p

-- what a line of a script is, as its user runs it
record IsSoundLine (line : Line) : Type 0 where
  pub some_bytes : 0 < length line.bytes
  pub short : length line.bytes ≤ MAX_GROUP
  pub mode : line.mode < 3
  pub are_bytes : (i : ℕ) → i < length line.bytes → slice_index line.bytes i < 256

sound_line : (log_only : Bool) (shape : Shape) (one : ScriptLine) → IsScriptLine one → LineFits shape one
    → IsSoundLine (line_of log_only shape one.mode (group_of shape.space one))
sound_line log_only shape one in_range fit = record {
  some_bytes = group_has_text (group_of shape.space one) fit.has_text;
  short = fit.short;
  mode = few_modes one in_range;
  are_bytes = λ i l. group-bytes (group_of shape.space one) fit.has_text.each i 0 l;
}

-- sound lines, and one more
sound_more : (ls : List Line) (x : Line)
    → ((j : ℕ) → j < length ls
    → (0 < length (line_at ls j).bytes) × (length (line_at ls j).bytes ≤ MAX_GROUP) × ((line_at ls j).mode < 3))
    → ((j i : ℕ) → i < length (line_at ls j).bytes → slice_index (line_at ls j).bytes i < 256)
    → IsSoundLine x → AreSound (ls ++ x ∷ [])
sound_more ls x sound bytes one = record {
  sound = λ j there. elim (dec_le (length ls) j) [
    | yes past ↦ (let n = length-append ls (x ∷ []) in let last : j ≡ length ls = omega arith in
        subst (λ (l : Line). (0 < length l.bytes) × (length l.bytes ≤ MAX_GROUP) × (l.mode < 3))
        (sym (ap (line_at (ls ++ x ∷ [])) last ∙ get_or-append_seam ls x [] no_line))
        (one.some_bytes, one.short, one.mode))
    | no low ↦ subst (λ (l : Line). (0 < length l.bytes) × (length l.bytes ≤ MAX_GROUP) × (l.mode < 3))
        (sym (get_or-append ls (x ∷ []) no_line j (omega arith))) (sound j (omega arith))
  ];
  are_bytes = λ j. elim (dec_le (length ls) j) [
    | yes past ↦ elim (ℕ_discrete j (length ls)) [
      | yes last ↦ subst (λ (l : Line). (i : ℕ) → i < length l.bytes → slice_index l.bytes i < 256)
          (sym (ap (line_at (ls ++ x ∷ [])) last ∙ get_or-append_seam ls x [] no_line)) one.are_bytes
      | no far ↦ subst (λ (l : Line). (i : ℕ) → i < length l.bytes → slice_index l.bytes i < 256)
          (sym (get_or_past (ls ++ x ∷ []) j no_line (let n = length-append ls (x ∷ []) in omega arith)))
          (λ i l. absurd (omega arith))
    ]
    | no low ↦ subst (λ (l : Line). (i : ℕ) → i < length l.bytes → slice_index l.bytes i < 256)
        (sym (get_or-append ls (x ∷ []) no_line j (omega arith))) (bytes j)
  ];
}

-- the lines of one user of a script that names pages as the running store asks
fit_of : (c : Setup) (user : ℕ) (more : List Line) → IsScripted (grown c user more) → AreFit c more
fit_of c user more S = subst (AreFit c) (changed_here c.script user more user refl) (record {
  names = record {
    there = S.there user;
    apart = S.apart user;
    within = S.within user;
    ascending = S.ascending user;
    are_bytes = S.are_bytes user;
  };
  alone = λ a. S.alone a user;
  some_page = λ a. S.some_page a user;
  texts = S.texts user;
})

no_tail : (u : UserState) (line : Line) (b : LinkBuffer) → holds_tail b (model.User (with_line u line)) ≡ false
no_tail u line link_buffer.Written = refl
no_tail u line link_buffer.Closed = refl

is_free : (u : UserState) (line : Line) → IsFreeToCheck (model.User (with_line u line))
is_free u line = λ _. record { no_slot = refl; no_tail = no_tail u line }

abbrev user_or : UserState → Actor → UserState
user_or u (model.User v) = v
user_or u _ = u

module _ {L D : Type 0} (log_seen : L → Seen) (log_gives : L → Call → L → Type 0) (data_seen : D → Seen)
    (data_gives : D → Call → D → Type 0) (about : About L D) (s : State (Slot L D) (View L D))
    (R : Ruled log_seen log_gives data_seen data_gives about s) (id : ℕ) (v : View L D) (x : Numbered)
    (sits : v.seats ≡ x ∷ []) (at : get_elem? s.views id ≡ maybe.some v)
    (plain : ◌≡◌ {A = Option Errand} x.errand None) (u : UserState) (is : x.actor ≡ model.User u)
    (done : u.step ≡ user_step.Done) (live : Live) (is_live : about.live ≡ Some live) (one : ScriptLine)
    (number : one.user ≡ u.user) (in_range : IsScriptLine one) (fits : LineFits about.opened.value.shape one)
    (room : lengths u.lines + length (line_about about one).bytes ≤ live.quota) where
  abbrev c : Setup
  c = R.run.setup

  abbrev shape : Shape
  shape = about.opened.value.shape

  abbrev line : Line
  line = line_about about one

  abbrev more : List Line
  more = u.lines ++ line ∷ []

  abbrev later : Setup
  later = grown c u.user more

  abbrev run : RunOf L D
  run = record R.run { setup = later }

  abbrev b : Actor
  b = model.User (with_line u line)

  abbrev after : List Actor
  after = set R.actors x.number b

  abbrev script : List ScriptLine
  script = R.is_about.script ++ one ∷ []

  here : get_elem? R.actors x.number ≡ maybe.some (model.User u)
  here = kept.here log_seen log_gives data_seen data_gives about s R id v x sits at
      ∙ ap (λ (a : Actor). maybe.some a) is

  own : UserFits (run_log_side log_seen data_seen R.run) c R.runs.running.shared R.runs.running.log_ghost R.parts.log
      x.number u
  own = R.runs.running.both.logged.each x.number (model.User u) here

  rests : (length u.starts ≡ u.k) × (u.k ≡ length u.lines) × (u.checks ≡ false)
  rests = subst (λ (t : UserStep). UserAt (run_log_side log_seen data_seen R.run) c R.runs.running.shared
      R.runs.running.log_ghost R.parts.log x.number u t) done own.step

  before : HasRoom live shape R.is_about.script (length (starts_about about)) c
  before = R.is_about.room live is_live

  all_fit : AllByRecursion (LineFits shape) script
  all_fit = all_snoc (LineFits shape) R.is_about.script one before.fits fits

  its_script : IsOfScript later script shape
  its_script = subst (λ (n : ℕ). IsOfScript (grown c n more) script shape) number
      (of_grown c R.is_about.script shape R.is_about.is_run.of_script one line
      (ap (λ (b : Bool). let l : Line = line_of b shape one.mode (group_of shape.space one) in l)
      (sym R.is_about.is_run.log_only_is))
      u.lines (own.lines ∙ ap c.script (sym number)))

  its_shape : ◌≡◌ {A = Shape} R.run.shape shape
  its_shape = R.is_about.is_run.shape

  scripted : IsScripted later
  scripted = scripts.scripted later script shape (subst IsWithinLimits its_shape R.runs.limits)
      (sym R.runs.its_pages ∙ ap (λ (z : Shape). z.pages) its_shape)
      (sym R.runs.its_page_size ∙ ap (λ (z : Shape). z.page_size) its_shape)
      (sym R.runs.its_slots ∙ ap (λ (z : Shape). z.slots) its_shape) its_script
      (λ user k o there. (of_user (LineFits shape) script user k o all_fit there).0)

  fit : AreFit c more
  fit = fit_of c u.user more scripted

  agree : Agree more u.lines u.k
  agree j low = let k = rests.1 in get_or-append u.lines (line ∷ []) no_line j (omega arith)

  its_bytes : lengths more ≤ live.quota
  its_bytes = let e = lengths_snoc u.lines line in omega arith

  -- no user has more bytes than its quota
  within : (user : ℕ) → lengths (later.script user) ≤ live.quota
  within user = elim (ℕ_discrete user u.user) [
    | yes same ↦ (let e = ap lengths (changed_here c.script u.user more user same) in let n = its_bytes in omega arith)
    | no other ↦ (let e = ap lengths (changed_else c.script u.user more user other) in
        let n = before.within user in omega arith)
  ]

  -- nor does its actor
  bytes_at : (n : ℕ) (a : Actor) → get_elem? R.actors n ≡ maybe.some a → all_bytes a ≤ live.quota
  bytes_at n (model.User w) there =
      let lines = (R.runs.running.both.logged.each n (model.User w) there).lines in
      let e = ap lengths lines in let m = before.within w.user in omega arith
  bytes_at n (model.Writer t) there = omega arith
  bytes_at n (model.Flusher t) there = omega arith
  bytes_at n (model.Closer t) there = omega arith
  bytes_at n (model.Cleaner t) there = omega arith
  bytes_at n (model.Checkpointer t) there = omega arith
  bytes_at n (model.Reader t) there = omega arith

  bytes_after : (n : ℕ) (a : Actor) → get_elem? after n ≡ maybe.some a → all_bytes a ≤ live.quota
  bytes_after n a there = ⊎_elim
      (λ t. subst (λ (z : Actor). all_bytes z ≤ live.quota) t.1 its_bytes)
      (λ t. bytes_at n a t.1)
      (at_set R.actors x.number n b a there)

  -- so the log has room for all lines
  has_room : lsn (R.runs.running.shared.sn + sum_over_actors left_to_reserve after) < LSN_LIMIT
  has_room =
      let total = lines_total (run_log_side log_seen data_seen R.run) c R.runs.running.shared R.runs.running.log_ghost
      R.parts.log R.actors R.runs.running.both.logged in
      let lefts = total_set left_to_reserve R.actors x.number (model.User u) b here in
      let alls = total_set all_bytes R.actors x.number (model.User u) b here in
      let k : length u.starts ≡ length u.lines = rests.0 ∙ rests.1 in
      let none = none_left u.lines (length u.starts) k in
      let last = last_left u.lines line (length u.starts) k in
      let snoc = lengths_snoc u.lines line in
      let most = subst (λ (n : ℕ). sum_over_actors all_bytes after ≤ n * live.quota)
      (length-set R.actors x.number b ∙ R.count) (sum_at_most all_bytes live.quota after bytes_after) in
      let low = lsn_le (R.runs.running.shared.sn + sum_over_actors left_to_reserve after)
      (c.base + length (starts_about about) * live.quota) (omega arith) in
      let short = before.short in omega arith

  its_live : R.run.live ≡ true
  its_live = R.is_about.is_run.live_is ∙ ap (λ (o : Option Live). is_some o) is_live

  runs : RunsWith log_seen data_seen run about.plan.archive R.parts after
  runs = let K = R.runs in let N = K.running in record {
    limits = K.limits;
    started = K.started;
    its_pages = K.its_pages;
    its_page_size = K.its_page_size;
    followers = K.followers;
    bytes = bytes_take_lines c u.user more K.bytes fit.names;
    its_slots = K.its_slots;
    list_pages = K.list_pages;
    running = record {
      shared = N.shared;
      log_ghost = N.log_ghost;
      page_ghost = N.page_ghost;
      layout_is = N.layout_is;
      flat_is = N.flat_is;
      both = both_take_lines (run_log_side log_seen data_seen R.run) _ c N.shared N.log_ghost N.page_ghost _ R.parts.log
          R.parts.store R.actors x.number u more N.both here done agree
          (let n = length-append u.lines (line ∷ []) in let k = rests.1 in omega arith)
          (sound_more u.lines line own.sound own.are_bytes (sound_line about.plan.log_only shape one in_range fits)) fit
          has_room;
    };
    seated = seats_take_lines c R.actors its_live K.seated x.number u more here;
  }

  begun : HaveBegun log_seen data_seen R.run → HaveBegun log_seen data_seen run
  begun h = record { log = h.log; data_part = h.data_part }

  -- the devices of a run held what was opened, where they tell
  abbrev Held : RunOf L D → Reading → Type 0
  Held r reading = IfSome (log_seen about.opened.value.log.dev).tells (λ log_disk.
      IfSome (data_seen about.opened.value.store.dev).tells (λ data_disk.
      IsStart reading about.script.value log_disk data_disk → HaveBegun log_seen data_seen r))

  held_still : (reading : Reading) → Held R.run reading → Held run reading
  held_still reading held = told_still
      (λ log_disk. IfSome (data_seen about.opened.value.store.dev).tells (λ data_disk.
      IsStart reading about.script.value log_disk data_disk → HaveBegun log_seen data_seen R.run))
      (λ log_disk. IfSome (data_seen about.opened.value.store.dev).tells (λ data_disk.
      IsStart reading about.script.value log_disk data_disk → HaveBegun log_seen data_seen run))
      (log_seen about.opened.value.log.dev).tells
      (λ log_disk one_held. told_still
      (λ data_disk. IsStart reading about.script.value log_disk data_disk → HaveBegun log_seen data_seen R.run)
      (λ data_disk. IsStart reading about.script.value log_disk data_disk → HaveBegun log_seen data_seen run)
      (data_seen about.opened.value.store.dev).tells (λ data_disk so started. begun (so started)) one_held) held

  is_about : IsRunAbout log_seen data_seen about run
  is_about = let A = R.is_about in let Q = A.is_run in record {
    script = script;
    fixed = λ none. (let z : Some live ≡ None = sym is_live ∙ none in absurd (cc));
    is_run = record {
      shape = Q.shape;
      first_log = Q.first_log;
      first_data = Q.first_data;
      start = Q.start;
      live_is = Q.live_is;
      log_only_is = Q.log_only_is;
      first_is = Q.first_is;
      last_reader = Q.last_reader;
      of_script = its_script;
      its_pages = record {
        count = Q.its_pages.count;
        page_size = Q.its_pages.page_size;
        each = λ p page there. let o = Q.its_pages.each p page there in
            record { there = o.there; content = o.content; whole = o.whole };
      };
    };
    room = λ other told. subst (λ (z : Live). HasRoom z shape script (length (starts_about about)) later)
        (same_Some live other (sym is_live ∙ told))
        (record {
          lines = all_snoc IsScriptLine A.script one before.lines in_range;
          fits = all_fit;
          within = within;
          short = before.short;
        });
    begun = λ reading has. held_still reading (A.begun reading has);
  }

  abbrev then : Numbered
  then = numbered_with x u line

  hears : HaveHandedOn (run_log_side log_seen data_seen run) c.base R.parts.log R.heard after
      R.runs.running.log_ghost.log
  hears told n a there = ⊎_elim
      (λ t. let h = R.hears told x.number (model.User u) here in
      subst (λ (z : Actor). HasHandedOn (run_log_side log_seen data_seen run) c.base R.runs.running.log_ghost.log z
      (R.heard n)) t.1
      (subst (λ (m : ℕ). HasHandedOn (run_log_side log_seen data_seen run) c.base R.runs.running.log_ghost.log b
      (R.heard m)) (sym t.0) (record { groups = h.groups; blocks = h.blocks })))
      (λ t. R.hears told n a t.1)
      (at_set R.actors x.number n b a there)

  loaded : HaveLoaded R.parts.words.words after
  loaded n r there = ⊎_elim
      (λ t. let z : false ≡ true = ap is_reader t.1 in absurd (cc))
      (λ t. R.loaded n r t.1)
      (at_set R.actors x.number n b (model.Reader r) there)
    where
      is_reader : Actor → Bool
      is_reader (model.Reader r) = true
      is_reader _ = false

  told : (n : ℕ) (a : Actor) (code : ℕ) → get_elem? after n ≡ maybe.some a → GivesFailed a code
      → (run_log_side log_seen data_seen run).Cause R.parts.log code
  told n a code there gives = ⊎_elim
      (λ t. absurd (subst (λ (z : Actor). GivesFailed z code) (sym t.1) gives))
      (λ t. R.told n a code t.1 gives)
      (at_set R.actors x.number n b a there)

  left : kept.Leaves log_seen log_gives data_seen data_gives about s R id v x sits at then R.parts R.beside after
      R.heard
  unfolding runs
  left = let known = kept.known log_seen log_gives data_seen data_gives about s R id v x sits at in
      let first = kept.first log_seen log_gives data_seen data_gives about s R id v x sits at in record {
        same = record { words = refl; lists = refl };
        run = run;
        is_about = is_about;
        runs = runs;
        own_is = refl;
        own = work_beside (run_log_side log_seen data_seen R.run) R.parts.log R.beside.own R.actors x.number b
            (subst (λ (e : Option Errand). SitsAs R.beside.own e x.number) plain (known.errand 0 x first)) R.own;
        hears = hears;
        reads = λ n. reads_grown c u.user more R.parts.words.words R.runs.running.log_ghost.log (R.heard n) (R.reads n);
        loaded = loaded;
        count = length-set R.actors x.number b;
        told = told;
        number = refl;
        here = set_at R.actors x.number (model.User u) b here;
        its_heard = (known.mine 0 x first).2;
        free = is_free u line;
        sits = known.errand 0 x first;
        others = λ n e far still. (set_else R.actors x.number n b far, refl, still);
      }

  -- the user held no slot
  no_hand : hand (model.User u) ≡ None
  no_hand = ap (user_hand u) done

  taken : (k : ℕ) → k < 5 → slice_index R.parts.words.words (7 + k) ≢ 0 → IsSlotHeld after k
  taken k low busy =
      let t = R.taken k low (λ z. busy (ap (λ (ws : List ℕ). slice_index ws (7 + k)) R.words_are ∙ z)) in
      elim (ℕ_discrete t.0 x.number) [
        | yes same ↦ (let own_hand = ap hand (maybe.some-injective (model.User u) t.1
            (sym here ∙ ap (get_elem? R.actors) (sym same) ∙ t.2)) in
            let z : None ≡ Some k = sym no_hand ∙ own_hand ∙ t.3 in absurd (cc))
        | no far ↦ (t.0, t.1, set_else R.actors x.number t.0 b far ∙ t.2, t.3)
      ]

  -- THE RULE HOLDS once the user has the line
  pub rule_kept : Ruled log_seen log_gives data_seen data_gives about
      (record { words = s.words; homes = s.homes; views = slice_set s.views id (view_with v x u line) })
  rule_kept =
      let known = kept.known log_seen log_gives data_seen data_gives about s R id v x sits at in
      subst (λ (ws : List ℕ). Ruled log_seen log_gives data_seen data_gives about
      (record { words = ws; homes = s.homes; views = slice_set s.views id (view_with v x u line) })) R.words_are
      (kept.kept_then log_seen log_gives data_seen data_gives about s R id v x sits at then R.parts R.beside after
      R.heard left (view_with v x u line) R.out refl refl refl
      (λ k h. let z : None ≡ Some k = h in absurd (cc))
      (λ e some has. let z : None ≡ Some e = sym plain ∙ some in absurd (cc))
      (λ d h. known.data_part d h)
      (λ n a k e ne still there held. refl)
      (λ n g ne still has. refl)
      (λ j w d ne there stored. (R.knows j w there).data_part d stored)
      s.homes R.lists_are R.log_calls R.data_calls refl R.slots
      (λ k low z. R.home k low (sym (ap (λ (ws : List ℕ). slice_index ws (7 + k)) R.words_are) ∙ z))
      R.data_home taken)

-- A LOAD OF A WORD HANDS THE LINE IN.
module _ {L D : Type 0} (log_seen : L → Seen) (log_gives : L → Call → L → Type 0) (data_seen : D → Seen)
    (data_gives : D → Call → D → Type 0) (about : About L D) (slots id : ℕ) (me : Me (Slot L D) (View L D))
    (x : Numbered) (sits : me.0.seats ≡ x ∷ []) (plain : ◌≡◌ {A = Option Errand} x.errand None) (u : UserState)
    (is : x.actor ≡ model.User u) (done : u.step ≡ user_step.Done) (live : Live) (is_live : about.live ≡ Some live)
    (one : ScriptLine) (number : one.user ≡ u.user) (in_range : IsScriptLine one)
    (fits : LineFits about.opened.value.shape one)
    (room : lengths u.lines + length (line_about about one).bytes ≤ live.quota) where
  abbrev w : View L D
  w = view_with me.0 x u (line_about about one)

  same_view : handed_in (line_about about one) me 0 (w, me.1)
  same_view y z one_y user_z =
      let seat : ◌≡◌ {A = Numbered} x y = one_head me.0.seats x y sits one_y in
      let user : u ≡ z = ap (user_or u) (sym is ∙ ap (λ (n : Numbered). n.actor) seat ∙ user_z) in
      λ i. (view_with me.0 (seat i) (user i) (line_about about one), me.1)

  pub allows_hand : (i : ℕ) → Allows (Ruled log_seen log_gives data_seen data_gives about) slots id me i (λ n. n)
      (handed_in (line_about about one) me)
  allows_hand i s R wide at small = (
    w,
    keeps,
    tt,
    subst (λ (ws : List ℕ). Ruled log_seen log_gives data_seen data_gives about
        (record { words = ws; homes = s.homes; views = slice_set s.views id w })) (sym (set-get_or s.words i 0))
        (rule_kept log_seen log_gives data_seen data_gives about s R id me.0 x sits at plain u is done live is_live one
        number in_range fits room),
    same_view,
  )
