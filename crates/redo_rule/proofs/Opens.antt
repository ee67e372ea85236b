-- The rule holds of a table that was made of parts and actors at the beginning of a run.
use Rattle.std.proofs.Common.{Bool, List, None, Option, Some, [], ap, arith, cond, false, is_some, length, map, refl, subst, suc, sym, true, zero, ℕ, ◌+◌, ◌<◌, ◌∙◌, ◌∷◌, ◌≡◌, ◌≤◌}
use Rattle.std.specs.Prelude.{IfSome, slice_index}
use lib.ListN.{get_elem?}
use mathlib.Core.Option as maybe
use Rattle.atomic_table.specs.Table.{opening}
use Rattle.model_base.specs.declared.shape.Shape.{Shape}
use Rattle.model_core.proofs.Lsns.{lsn_block}
use Rattle.model_core.specs.States as model
use Rattle.model_core.specs.{Setup, archives, Entry, flat, flushed_at, Given, layout_of, ReaderState, Tiles, HoldsNothing}
use Rattle.model_core.specs.declared.words.Word.TheVariants as word
use Rattle.model_logcore.proofs.StartEmpty.{start_empty}
use Rattle.model_logcore.specs.{StartActor}
use Rattle.model_running.proofs.FlatWords.{flat_read}
use Rattle.model_running.proofs.Following.{upto_back}
use Rattle.model_running.specs.ReadHalf.{groups_upto}
use Rattle.model_script.specs.declared.script.ScriptLine.{ScriptLine}
use Rattle.model_store.specs.{Reading}
use Rattle.model_theorem.specs.{IsStart}
use Rattle.redo_disk.specs.{Call, Seen}
use Rattle.redo_logdev.specs.Part as log
use Rattle.redo_drive.proofs.CallsOn.{not_called}
use Rattle.redo_drive.specs.Begins.{BeginsOn, BeginsWith}
use Rattle.redo_drive.specs.{CallsOn, AreLists, listing_at, groups_of, run_log_side, HasReading, views_of}
use Rattle.redo_drive.specs.Beginning.{HaveBegun, IsRunWith}
use Rattle.redo_drive.specs.Setups.{seated_actors}
use Rattle.redo_drive.specs.declared.making.Beginning.{Beginning}
use Rattle.redo_drive.specs.declared.parts.Parts.{Parts}
use Rattle.model_core.proofs.FailedCalls.{gives_hand}
use Rattle.redo_rule.proofs.Holders.{holding}
use Rattle.model_core.specs.declared.words.Layout.{Layout}
use Rattle.redo_words.specs.{shape_layout}
use Rattle.redo_follow.specs.Following.{Following}
use Rattle.redo_rule.proofs.Seated.{not_working}
use Rattle.redo_rule.specs.Handing.{nothing}
use Rattle.redo_rule.specs.Lively.{HasRoom}
use Rattle.redo_rule.specs.OwnSide.{Beside, desk_with, HasItsWork, HasNoWork, OwnSide, SitsAs}
use Rattle.redo_rule.specs.Ruled.{first_view, Knows, none_heard, Ruled, slot_content, starts_about, starts_with}
use Rattle.redo_rule.specs.declared.law.About.{About}
use Rattle.redo_rule.specs.declared.law.Heard.{Heard}
use Rattle.redo_rule.specs.declared.law.Keeping.{Keeping}
use Rattle.redo_rule.specs.declared.law.Live.{Live}
use Rattle.redo_rule.specs.declared.law.Numbered.{Numbered}
use Rattle.redo_rule.specs.declared.law.Slot.{Slot}
use Rattle.redo_rule.specs.declared.law.Slot.TheVariants as slot
use Rattle.redo_rule.specs.declared.law.View.{View}
use Rattle.redo_store.specs.Part as store

-- which words a run has is told by the shape of its store
pub same_layout : (shape : Shape) (c : Setup) → shape.pages ≡ c.pages → shape.page_size ≡ c.page_size
    → ◌≡◌ {A = Layout} (shape_layout shape) (layout_of c)
same_layout shape c pages size =
    ap (λ (n : ℕ). let l : Layout = record { pages = n; page_size = shape.page_size } in l) pages
    ∙ ap (λ (n : ℕ). let l : Layout = record { pages = c.pages; page_size = n } in l) size

-- what is known of the data part
abbrev pub part_or : {D : Type 0} → store.Part D → Option (Keeping D) → store.Part D
part_or d None = d
part_or d (Some k) = k.part

abbrev pub is_out : {D : Type 0} → Option (Keeping D) → Bool
is_out None = false
is_out (Some k) = k.out

module _ {L D : Type 0} where
  -- what lies in the slots
  abbrev pub slots_of : Parts L D → Beside → List (Slot L D)
  slots_of parts beside = slot.Log (desk_with parts.log beside) ∷ slot.Pages (listing_at
      parts.lists.lists 0) ∷ slot.Pages (listing_at parts.lists.lists 1) ∷ slot.Pages (listing_at parts.lists.lists 2)
      ∷ slot.Pages (listing_at parts.lists.lists 3) ∷ slot.Data parts.store ∷ []

  at_home : (parts : Parts L D) (beside : Beside) (k : ℕ) → k < 5 → get_elem? (map maybe.some (slots_of parts beside)) k
      ≡ maybe.some (maybe.some (slot_content parts beside k))
  at_home parts beside zero l = refl
  at_home parts beside (suc zero) l = refl
  at_home parts beside (suc (suc zero)) l = refl
  at_home parts beside (suc (suc (suc zero))) l = refl
  at_home parts beside (suc (suc (suc (suc zero)))) l = refl
  at_home parts beside (suc (suc (suc (suc (suc k))))) l = absurd (omega arith)

-- an actor that begins stands at the run's base, if it is a reader of the log
none_at_start : (c : Setup) (seat_of : ℕ → ℕ) (writer n sn : ℕ) (log : List Entry) (a : model.Actor) → Tiles c.base
    log sn
    → StartActor c seat_of writer n a → ◌≡◌ {A = List Given} (groups_of a log) []
none_at_start c seat_of writer n sn log (model.Reader r) tiles is =
    let low : r.at ≤ c.base =
    (let at = ap (λ (x : ReaderState). x.at) is.3 in let b = lsn_block c.base in omega arith) in
    pick (archives r) (groups_upto r.at log) (upto_back log r.at c.base sn low tiles)
  where
    pick : (b : Bool) (l : List Given) → ◌≡◌ {A = List Given} l [] → ◌≡◌ {A = List Given} (cond b [] l) []
    pick true l e = refl
    pick false l e = e
none_at_start c seat_of writer n sn log _ tiles is = refl

-- and has loaded no mark
none_loaded : (c : Setup) (seat_of : ℕ → ℕ) (writer n flushed : ℕ) (r : ReaderState)
    → StartActor c seat_of writer n (model.Reader r) → r.mark ≤ flushed
none_loaded c seat_of writer n flushed r is =
    let mark : r.mark ≡ 0 = ap (λ (x : ReaderState). x.mark) is.3 in omega arith

-- WHO SITS IN THE FIRST SEAT as a run begins: an actor of that number, which has handed on nothing, and on no errand
pub record Stands (own : Option OwnSide) (actors : List model.Actor) (x : Numbered) : Type 0 where
  pub here : get_elem? actors x.number ≡ maybe.some x.actor
  pub silent : ◌≡◌ {A = Heard} nothing x.heard
  pub sits : SitsAs own x.errand x.number
  pub idle : HasNoWork x.errand

abbrev pub AllStand : Option OwnSide → List model.Actor → List Numbered → Type 0
AllStand own actors seats = (i : ℕ) (x : Numbered) → get_elem? seats i ≡ maybe.some x → Stands own actors x

-- A TABLE IS TOLD OF A RUN as it begins with these actors: that of a script, or a live one.
pub record IsToldOf {L D R : Type 0} (log_seen : L → Seen) (data_seen : D → Seen) (stands : R → List Given → Type 0)
    (about : About L D) (script : List ScriptLine) (live : Bool) (followers : List (Following R))
    (firsts : List model.Actor) (start : Beginning L D R)
    (B : BeginsOn log_seen data_seen stands about.opened.value script live about.plan followers firsts start) : Type 0
  where
    pub script_is : script ≡ about.script.value
    pub live_is : is_some about.live ≡ live
    pub firsts_are : ◌≡◌ {A = List model.Actor} firsts (starts_about about)
    pub room : (l : Live) → about.live ≡ Some l
        → HasRoom l about.opened.value.shape script (length (starts_about about)) B.run.setup

module _ {L D R : Type 0} (log_seen : L → Seen) (data_seen : D → Seen) (stands : R → List Given → Type 0)
    (about : About L D) (script : List ScriptLine) (live : Bool) (followers : List (Following R))
    (firsts : List model.Actor) (start : Beginning L D R)
    (B : BeginsOn log_seen data_seen stands about.opened.value script live about.plan followers firsts start) where
  -- the actors are those that the table's run begins with
  pub starts_so : IsToldOf log_seen data_seen stands about script live followers firsts start B
      → ◌≡◌ {A = List model.Actor} (views_of start.actors.items) (starts_about about)
  starts_so T = B.stands.are_new ∙ T.firsts_are

  -- and none holds anything
  holds_none : (n : ℕ) (a : model.Actor) → get_elem? (views_of start.actors.items) n ≡ maybe.some a → HoldsNothing a
  holds_none n a at =
      start_empty B.run.setup B.at_start.seat_of B.at_start.writer n a (B.at_start.starts.each n a at)

module _ {L D R : Type 0} (log_seen : L → Seen) (log_gives : L → Call → L → Type 0) (data_seen : D → Seen) (data_gives
    : D → Call → D → Type 0)
    (stands : R → List Given → Type 0) (about : About L D) (script : List ScriptLine) (live : Bool)
    (followers : List (Following R)) (firsts : List model.Actor) (start : Beginning L D R)
    (B : BeginsOn log_seen data_seen stands about.opened.value script live about.plan followers firsts start)
    (told : IsToldOf log_seen data_seen stands about script live followers firsts start B)
    (lists_are : AreLists start.parts.lists) (beside : Beside) (own_is : about.own_writes ≡ is_some beside.own)
    (worked : HasItsWork (run_log_side log_seen data_seen B.run) start.parts.log beside.own
    (views_of start.actors.items))
    (stand : AllStand beside.own (views_of start.actors.items) (first_view about).seats) where
  abbrev all : List model.Actor
  all = views_of start.actors.items

  abbrev fresh_one : (n : ℕ) (a : model.Actor) → get_elem? all n ≡ maybe.some a → HoldsNothing a
  fresh_one = holds_none log_seen data_seen stands about script live followers firsts start B

  abbrev Known : ℕ → View L D → Type 0
  Known j v = Knows about start.parts beside all none_heard (λ _. 0) 0 false j v

  knows_first : Known 0 (first_view about)
  knows_first = record {
    told = λ i x e. refl;
    layout = λ i x e. ap shape_layout (sym B.is_run.shape) ∙ same_layout B.run.shape B.run.setup B.from.runs.its_pages B.from.runs.its_page_size
        ∙ sym B.from.runs.running.layout_is;
    mine = λ i x e. (refl, (stand i x e).here, (stand i x e).silent);
    free = λ i x e _. fresh_one x.number x.actor (stand i x e).here;
    held = λ i x k e h. let z = (fresh_one x.number x.actor (stand i x e).here).no_slot in absurd (cc);
    errand = λ i x e. (stand i x e).sits;
    work = λ i x g e is has. absurd (not_working x.errand g is (stand i x e).idle has);
    data_part = λ d e. (refl, sym (ap (λ (o : Option (Keeping D)). part_or about.opened.value.store o) e) ∙ sym B.data_part, ap (λ (o : Option (Keeping D)). is_out o) e);
  }

  one_view : (j : ℕ) (u : View L D) → get_elem? (first_view about ∷ []) j ≡ maybe.some u → Known j u
  one_view zero u e = subst (Known 0) (maybe.some-injective (first_view about) u e) knows_first
  one_view (suc j) u e = absurd (maybe.some-ne-none u (sym e))

  -- no turn word is held
  free_word : (k : ℕ) → k < 5 → slice_index start.parts.words.words (7 + k) ≡ 0
  free_word zero l = ap (λ (ws : List ℕ). slice_index ws 7) B.at_start.words_are ∙ B.at_start.starts.words.device
  free_word (suc i) l = ap (λ (ws : List ℕ). slice_index ws (7 + suc i)) B.at_start.words_are ∙ ap (slice_index (flat B.at_start.words)) (let q : 7 + suc i ≡ 8 + i = omega arith in q)
      ∙ flat_read (layout_of B.run.setup) B.at_start.words B.at_start.starts.words.sized (word.List i) (omega arith) ∙ B.at_start.starts.words.lists i

  -- where the devices tell, they hold what was opened
  abbrev HasBegunWith : List ScriptLine → Type 0
  HasBegunWith lines = (reading : Reading) → HasReading reading about.opened.value
      → IfSome (log_seen about.opened.value.log.dev).tells (λ log_disk.
      IfSome (data_seen about.opened.value.store.dev).tells (λ data_disk.
      IsStart reading lines log_disk data_disk → HaveBegun log_seen data_seen B.run))

  opens_one : Ruled log_seen log_gives data_seen data_gives about (opening start.parts.words.words (slots_of
      start.parts beside) (first_view about))
  opens_one = record {
    run = B.run;
    is_about = record {
      script = script;
      fixed = λ _. told.script_is;
      is_run = subst (λ (b : Bool). IsRunWith about.opened.value script b about.plan B.run) (sym told.live_is)
          B.is_run;
      room = told.room;
      begun = subst HasBegunWith told.script_is B.begun;
    };
    parts = start.parts;
    beside = beside;
    actors = all;
    heard = none_heard;
    words_are = refl;
    lists_are = lists_are;
    own_is = own_is;
    own = worked;
    runs = B.from.runs;
    hears = λ tells n a at. record {
      groups = sym (none_at_start B.run.setup B.at_start.seat_of B.at_start.writer n
          B.from.runs.running.shared.sn B.from.runs.running.log_ghost.log a
          B.from.runs.running.both.logged.global.tiled.tiles (B.at_start.starts.each n a at));
      blocks = tt;
    };
    reads = λ n. record { done = tt; now = tt };
    loaded = λ n r at. none_loaded B.run.setup B.at_start.seat_of B.at_start.writer n
        (slice_index start.parts.words.words flushed_at) r (B.at_start.starts.each n (model.Reader r) at);
    count = ap length (starts_so log_seen data_seen stands about script live followers firsts start B told);
    log_calls = subst (λ (z : log.Part L). CallsOn log_gives about.opened.value.log.dev about.opened.value.log.failed z.dev z.failed) (sym B.log) (not_called log_gives about.opened.value.log.dev about.opened.value.log.failed);
    data_calls = subst (λ (z : store.Part D). CallsOn data_gives about.opened.value.store.dev about.opened.value.store.failed z.dev z.failed) (sym B.data_part) (not_called data_gives about.opened.value.store.dev about.opened.value.store.failed);
    log_shape = ap (λ (z : log.Part L). z.shape) B.log;
    slots = refl;
    home = λ k l z. at_home start.parts beside k l;
    seat_of = λ _. 0;
    keeper = 0;
    out = false;
    data_home = λ z. refl;
    told = λ n a code at g. let held = (holding log_seen data_seen B.run start.parts all B.from.runs n a at 0
        (gives_hand a code g)).word_is in let free = free_word 0 (omega arith) in absurd (omega arith);
    taken = λ k l busy. absurd (busy (free_word k l));
    knows = one_view;
  }

  pub opens_any : (ws : List ℕ) (xs : List (Slot L D)) → ws ≡ start.parts.words.words → ◌≡◌ {A = List (Slot L D)} xs
      (slots_of start.parts beside) → Ruled log_seen log_gives data_seen data_gives about (opening ws xs (first_view
      about))
  opens_any ws xs words slots_are =
      subst (λ (z : List ℕ). Ruled log_seen log_gives data_seen data_gives about (opening z xs (first_view about)))
      (sym words)
      (subst (λ (z : List (Slot L D)). Ruled log_seen log_gives data_seen data_gives about
      (opening start.parts.words.words z (first_view about))) (sym slots_are) opens_one)

module _ {L D R : Type 0} (log_seen : L → Seen) (data_seen : D → Seen) (stands : R → List Given → Type 0) (about :
    About L D)
    (fixed : about.live ≡ None)
    (followers : List (Following R)) (start : Beginning L D R)
    (B : BeginsWith log_seen data_seen stands about.opened.value about.script.value about.plan followers start) where
  abbrev pub script_firsts : List model.Actor
  script_firsts = seated_actors about.opened.value.shape about.script.value about.opened.value.start about.plan

  -- a table that is told a script is told of the script's run
  pub told_script : IsToldOf log_seen data_seen stands about about.script.value false followers script_firsts start B
  told_script = record {
    script_is = refl;
    live_is = ap (λ (o : Option Live). is_some o) fixed;
    firsts_are = ap (starts_with about) (sym fixed);
    room = λ live is. (let none : Some live ≡ None = sym is ∙ fixed in absurd (cc));
  }

  -- its actors are those that the table's run begins with
  pub are : ◌≡◌ {A = List model.Actor} (views_of start.actors.items) (starts_about about)
  are = starts_so log_seen data_seen stands about about.script.value false followers script_firsts start B told_script

  pub fresh : (n : ℕ) (a : model.Actor) → get_elem? (views_of start.actors.items) n ≡ maybe.some a → HoldsNothing a
  fresh = holds_none log_seen data_seen stands about about.script.value false followers script_firsts start B

-- THE RULE HOLDS of a table that is told a script.
pub opens_ok : {L D R : Type 0} (log_seen : L → Seen) (log_gives : L → Call → L → Type 0) (data_seen : D → Seen)
    (data_gives : D → Call → D → Type 0) (stands : R → List Given → Type 0) (about : About L D)
    (fixed : about.live ≡ None) (followers : List (Following R)) (start : Beginning L D R)
    (B : BeginsWith log_seen data_seen stands about.opened.value about.script.value about.plan followers start)
    → AreLists start.parts.lists → (beside : Beside) → about.own_writes ≡ is_some beside.own
    → HasItsWork (run_log_side log_seen data_seen B.run) start.parts.log beside.own (views_of start.actors.items)
    → AllStand beside.own (views_of start.actors.items) (first_view about).seats
    → (ws : List ℕ) (xs : List (Slot L D)) → ws ≡ start.parts.words.words
    → ◌≡◌ {A = List (Slot L D)} xs (slots_of start.parts beside)
    → Ruled log_seen log_gives data_seen data_gives about (opening ws xs (first_view about))
opens_ok log_seen log_gives data_seen data_gives stands about fixed followers start B =
    opens_any log_seen log_gives data_seen data_gives stands about about.script.value false followers
    (script_firsts log_seen data_seen stands about fixed followers start B) start B
    (told_script log_seen data_seen stands about fixed followers start B)
