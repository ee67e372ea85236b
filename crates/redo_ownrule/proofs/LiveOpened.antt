-- A store that is shared as a live run begins: the rule holds of its table, and the first seat knows all players.
use Rattle.std.proofs.Common.{Bool, Global, List, None, Option, Some, Vec, [], ap, arith, cond, false, is_some}
use Rattle.std.proofs.Common.{length}
use Rattle.std.proofs.Common.{map, refl, subst, sym, ℕ, ◌*◌, ◌+◌, ◌<◌, ◌∙◌, ◌≡◌, ◌≤◌}
use Rattle.std.proofs.lemmas.Bool.Decides.{nat_tests}
use Rattle.std.proofs.lemmas.List.{length-map}
use Rattle.std.specs.Prelude.{IfSome, IsSome, vec_capacity}
use lib.ListN.{get_elem?}
use mathlib.Core.Option as maybe
use Rattle.atomic_table.specs.Table.{Me, opening}
use Rattle.model_base.specs.declared.limits.TheConstants.{LSN_LIMIT}
use Rattle.model_core.specs.{Given, lsn, word_count}
use Rattle.model_core.specs.States as model
use Rattle.model_core.specs.Hands.{HoldsNothing}
use Rattle.model_core.specs.declared.words.Layout.{Layout}
use Rattle.model_log.specs.{lsn_of, sn_of}
use Rattle.model_logcore.proofs.StartEmpty.{start_empty}
use Rattle.model_own.specs.OwnWrites.{LogWork}
use Rattle.model_running.proofs.Places.{lsn_is}
use Rattle.redo_disk.specs.{Call}
use Rattle.redo_disk.specs.Sight.{Seen}
use Rattle.redo_drive.proofs.Viewed.{length_views}
use Rattle.redo_drive.specs.Begins.{BeginsLive}
use Rattle.redo_drive.specs.Lists.{AreLists}
use Rattle.redo_drive.specs.LiveActors.{live_actors, live_plan}
use Rattle.redo_drive.specs.History.{views_of}
use Rattle.redo_drive.specs.declared.actor.Actor.{Actor}
use Rattle.redo_drive.specs.declared.making.Beginning.{Beginning}
use Rattle.redo_ownrule.proofs.Placed.{alone as alone_crew}
use Rattle.redo_ownrule.proofs.Opened.{cleaner_place, none_there}
use Rattle.redo_ownrule.proofs.Standing.{all_stand, first_seated, side_of}
use Rattle.redo_ownrule.specs.Players.{actor_of, AreInOrder, crew, place, seated, workers}
use Rattle.redo_ownrule.specs.Sharing.{IsUnseated}
use Rattle.redo_ownrule.specs.Staffing.{AreStaffOf}
use Rattle.redo_ownrule.specs.declared.player.Player.{Player}
use Rattle.redo_ownrule.specs.declared.shared.Shared.{Shared}
use Rattle.redo_ownrule.specs.declared.staffing.Staff.{Staff}
use Rattle.redo_rule.proofs.Opens as opens
use Rattle.redo_rule.proofs.OpensLive.{opens_live}
use Rattle.redo_rule.specs.Cutting.{IsFirst}
use Rattle.redo_rule.specs.Ruled.{first_view, none_heard, numbered, own_numbered, Ruled, starts_about, starts_with}
use Rattle.redo_rule.specs.Seating.{IsCleaner}
use Rattle.redo_rule.specs.declared.law.About.{About}
use Rattle.redo_rule.specs.declared.law.Keeping.{Keeping}
use Rattle.redo_rule.specs.declared.law.Live.{Live}
use Rattle.redo_rule.specs.declared.law.Numbered.{Numbered}
use Rattle.redo_rule.specs.declared.law.Slot.{Slot}
use Rattle.redo_rule.specs.declared.law.View.{View}
use Rattle.redo_store.specs.{IsRunnable}
use Rattle.redo_store.specs.declared.opened.Opened.{Opened}
use Rattle.redo_words.specs.{shape_layout}

no_work : (work : Option LogWork) → is_some work ≡ false → work ≡ None
no_work None none = refl
no_work (Some k) none = absurd (cc)

none_works : {R : Type 0} (work : Option LogWork) (ps : List (Player R)) → is_some work ≡ false
    → side_of work ps ≡ None
none_works None ps none = refl
none_works (Some k) ps none = absurd (cc)

-- an lsn gives its sn back
sn_back : (sn : ℕ) → sn_of (lsn_of sn) ≡ sn
sn_back sn = grind (arith, nat_tests)

pub base_is : (base start : ℕ) → lsn base ≡ start → sn_of start ≡ base
base_is base start is = ap sn_of (sym is ∙ lsn_is base) ∙ sn_back base

module _ {L D R : Type 0} (log_seen : L → Seen) (log_gives : L → Call → L → Type 0) (data_seen : D → Seen)
    (data_gives : D → Call → D → Type 0) (stands : R → List Given → Type 0) (about : About L D) (live : Live)
    (alive : about.live ≡ Some live) (no_lines : about.script.value ≡ []) (plain : about.own_writes ≡ false)
    (kept : about.plan ≡ live_plan about.plan.log_only) (start : Beginning L D R)
    (B : BeginsLive log_seen data_seen stands about.opened.value live.users about.plan.log_only start)
    (short : lsn (B.run.setup.base + length (starts_about about) * live.quota) < LSN_LIMIT)
    (staff : Staff R) (S : AreStaffOf false start.actors.items staff) where
  abbrev ps : List (Player R)
  ps = staff.players.items

  abbrev actors : List model.Actor
  actors = views_of start.actors.items

  -- the actors with which the run begins
  abbrev firsts : List model.Actor
  firsts = live_actors about.opened.value.shape live.users about.opened.value.start (live_plan about.plan.log_only)

  pub actors_are : ◌≡◌ {A = List model.Actor} actors firsts
  actors_are = B.stands.are_new

  pub starts_are : ◌≡◌ {A = List model.Actor} (starts_about about) actors
  starts_are =
      ap (starts_with about) alive
      ∙ ap (live_actors about.opened.value.shape live.users about.opened.value.start) kept
      ∙ sym actors_are

  -- and they are those of the players
  crew_is : ◌≡◌ {A = List model.Actor} actors (views_of (crew staff.work ps))
  crew_is = ap (λ (l : List (Actor R)). views_of l) (sym S.are)

  pub players_are : ◌≡◌ {A = List model.Actor} (views_of (map actor_of ps)) actors
  players_are =
      ap (λ (l : List (Actor R)). views_of l)
      (alone_crew ps ∙ ap (λ (w : Option LogWork). crew w ps) (sym (no_work staff.work S.works))) ∙ sym crew_is

  first_is_seated : ◌≡◌ {A = List Numbered} (first_view about).seats (seated (place false ps) none_heard 0 ps)
  first_is_seated =
      ap (λ (b : Bool). cond b (own_numbered 0 (starts_about about)) (numbered none_heard 0 (starts_about about))) plain
      ∙ ap (numbered none_heard 0) (starts_are ∙ crew_is)
      ∙ first_seated false staff.work S.works ps S.order S.others S.at_home

  stand : opens.AllStand None actors (first_view about).seats
  stand i x at = subst (λ o. opens.Stands o actors x) (none_works staff.work ps S.works)
      (all_stand false staff.work S.works ps S.order S.at_home actors crew_is (first_view about).seats first_is_seated
      i x at)

  -- THE RULE HOLDS
  pub opens_so : AreLists start.parts.lists → (block : List ℕ) (ws : List ℕ) (xs : List (Slot L D))
      → ws ≡ start.parts.words.words
      → ◌≡◌ {A = List (Slot L D)} xs (opens.slots_of start.parts (record { block = block; own = None }))
      → Ruled log_seen log_gives data_seen data_gives about (opening ws xs (first_view about))
  opens_so = opens_live log_seen log_gives data_seen data_gives stands about live alive no_lines plain kept start
      B short

  -- NO PLAYER HAS ITS SEAT YET
  module _ (shared : Shared L D R) (key : shared.board.shared.key ≡ about)
      (of : shared.first.table_id ≡ shared.board.shared.table_id) (slots : shared.board.shared.table_id.slots ≡ 6)
      (words : shared.board.shared.table_id.words ≡ word_count start.parts.words.layout)
      (me : shared.first.me ≡ (first_view about, []))
      (laid : ◌≡◌ {A = Layout} shared.layout (shape_layout about.opened.value.shape))
      (no_entries : shared.entries.items ≡ []) (room_is : shared.actors ≡ staff.room) (has_room : IsSome shared.seats)
      (fits : IfSome shared.seats (λ v. (v.items ≡ []) × (length ps ≤ vec_capacity v)))
      (runnable : IsRunnable about.opened.value) where
    view : shared.first.me.0 ≡ first_view about
    view = ap (λ (m : Me (Slot L D) (View L D)). m.0) me

    layout_is : ◌≡◌ {A = Layout} (shape_layout about.opened.value.shape) start.parts.words.layout
    layout_is = ap shape_layout (sym B.is_run.shape)
        ∙ opens.same_layout B.run.shape B.run.setup B.from.runs.its_pages B.from.runs.its_page_size
        ∙ sym B.from.runs.running.layout_is

    fresh : (n : ℕ) (a : model.Actor) → get_elem? actors n ≡ maybe.some a → HoldsNothing a
    fresh n a at = start_empty B.run.setup B.at_start.seat_of B.at_start.writer n a (B.at_start.starts.each n a at)

    first_is : IsFirst shared.board.shared.table_id shared.first
    first_is = record {
      of = of;
      slots = slots;
      words = words ∙ ap word_count (sym layout_is ∙ sym (ap (λ (v : View L D). v.layout) view));
      none = ap (λ (m : Me (Slot L D) (View L D)). m.1) me;
      empty = ap (λ (v : View L D). v.held) view;
      rest = λ i y e.
          let there = stand i y (ap (λ (v : View L D). get_elem? v.seats i) (sym view) ∙ e) in (
            fresh y.number y.actor there.here,
            there.idle,
          );
      home = λ d has. sym (ap (λ (o : Option (Keeping D)). opens.is_out o)
          (sym (ap (λ (v : View L D). v.data_part) view) ∙ has));
    }

    own_same : shared.board.shared.key.own_writes ≡ false
    own_same = ap (λ (z : About L D). z.own_writes) key ∙ plain

    many : length ps ≡ length (starts_about about)
    many =
        let a = ap (λ (l : List model.Actor). length l) players_are in
        let s = ap (λ (l : List model.Actor). length l) starts_are in
        let m = length_views (map actor_of ps) in
        let n = length-map ps actor_of in omega arith

    -- where it stands as the run begins
    placed_at : (i : ℕ) (a : model.Actor) → get_elem? (views_of (map actor_of ps)) i ≡ maybe.some a
        → get_elem? actors i ≡ maybe.some a
    placed_at i a at = ap (λ (l : List model.Actor). get_elem? l i) (sym players_are) ∙ at

    starts : (i : ℕ) (a : model.Actor) → get_elem? (views_of (map actor_of ps)) i ≡ maybe.some a → IsCleaner a
        → i ≡ B.run.setup.cleaner
    starts i a at is = cleaner_place B.run.setup B.at_start.seat_of B.at_start.writer i a
        (B.at_start.starts.each i a (placed_at i a at)) is

    pub unseated : IsUnseated shared ps
    unseated = record {
      ready = record {
        runnable = subst (λ (z : About L D). IsRunnable z.opened.value) (sym key) runnable;
        may = λ fixed. let e : Some live ≡ None = sym alive ∙ sym (ap (λ (z : About L D). z.live) key) ∙ fixed in
            absurd (cc);
        no_entries = no_entries;
        room = λ fixed. let e : Some live ≡ None = sym alive ∙ sym (ap (λ (z : About L D). z.live) key) ∙ fixed in
            absurd (cc);
        no_actors = subst (λ (v : Vec (Actor R) Global). v.items ≡ []) (sym room_is) S.empty;
        actors_fit = subst (λ (z : About L D). length (starts_about z) ≤ vec_capacity shared.actors) (sym key)
            (let s = ap (λ (l : List model.Actor). length l) starts_are in
            let m = length_views start.actors.items in
            let r = S.room in
            let same = ap vec_capacity room_is in omega arith);
      };
      order = subst (λ (b : Bool). AreInOrder b ps) (sym own_same) S.order;
      count = subst (λ (z : About L D). length ps + workers z.own_writes ≡ length (starts_about z)) (sym key)
          (let n = many in let w = ap workers plain in omega arith);
      one_cleaner = λ i j a b at bt is jt. starts i a at is ∙ sym (starts j b bt jt);
      no_cleaner = λ only i a at is. none_there B.run.setup actors B.from.runs.seated
          (B.is_run.log_only_is ∙ sym (ap (λ (z : About L D). z.plan.log_only) key) ∙ only) i a (placed_at i a at) is;
      first = first_is;
      layout = ap (λ (v : View L D). v.layout) view ∙ sym laid;
      told = ap (λ (v : View L D). v.about) view ∙ ap Some (sym key);
      all = ap (λ (v : View L D). v.seats) view ∙ first_is_seated
          ∙ ap (λ (b : Bool). seated (place b ps) none_heard 0 ps) (sym own_same);
      part = (about.opened.value.store, ap (λ (v : View L D). v.data_part) view);
      has_room = has_room;
      seats_fit = fits;
    }

-- what is told of a live run, as its table is told
module _ {L D R : Type 0} (log_seen : L → Seen) (data_seen : D → Seen) (stands : R → List Given → Type 0)
    (about : About L D) (live : Live) (alive : about.live ≡ Some live)
    (kept : about.plan ≡ live_plan about.plan.log_only) (opened : Opened L D) (opened_is : about.opened.value ≡ opened)
    (start : Beginning L D R) (B : BeginsLive log_seen data_seen stands opened live.users about.plan.log_only start)
  where
    pub about_live : BeginsLive log_seen data_seen stands about.opened.value live.users about.plan.log_only start
    about_live = subst (λ (o : Opened L D). BeginsLive log_seen data_seen stands o live.users about.plan.log_only start)
        (sym opened_is) B

    starts_count : length (starts_about about)
        ≡ length (live_actors opened.shape live.users opened.start (live_plan about.plan.log_only))
    starts_count =
        ap (λ (l : List model.Actor). length l)
        (ap (starts_with about) alive
        ∙ ap (live_actors about.opened.value.shape live.users about.opened.value.start) kept
        ∙ ap (λ (o : Opened L D). live_actors o.shape live.users o.start (live_plan about.plan.log_only)) opened_is)

    pub about_short : lsn (sn_of opened.start
        + length (live_actors opened.shape live.users opened.start (live_plan about.plan.log_only)) * live.quota)
        < LSN_LIMIT
        → lsn (about_live.run.setup.base + length (starts_about about) * live.quota) < LSN_LIMIT
    about_short low =
        subst (λ (n : ℕ). lsn (n + length (starts_about about) * live.quota) < LSN_LIMIT)
        (base_is about_live.run.setup.base opened.start
        (about_live.is_run.start ∙ ap (λ (o : Opened L D). o.start) opened_is))
        (subst (λ (n : ℕ). lsn (sn_of opened.start + n * live.quota) < LSN_LIMIT) (sym starts_count) low)
