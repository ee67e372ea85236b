-- A store that is shared as its run begins: the rule holds of its table, and the first seat knows all players.
use Rattle.std.proofs.Common.{Bool, Global, List, None, Option, Some, Vec, [], ap, arith, cond, false, is_some, length}
use Rattle.std.proofs.Common.{map, refl, subst, suc, sym, true, zero, ℕ, ◌+◌, ◌∙◌, ◌∷◌, ◌≡◌, ◌≤◌}
use Rattle.std.specs.Prelude.{IfSome, IsSome, vec_capacity}
use lib.ListN.{get_elem?}
use mathlib.Core.Option as maybe
use Rattle.atomic_table.specs.Table.{Me, opening}
use Rattle.model_core.specs.{CleanerState, Given, word_count}
use Rattle.model_core.specs.States as model
use Rattle.model_core.specs.Setups.{Setup}
use Rattle.model_logcore.specs.{StartActor}
use Rattle.model_own.specs.OwnWrites.{LogWork}
use Rattle.model_running.proofs.Seated.{no_cleaner}
use Rattle.model_running.specs.{AreSeated}
use Rattle.redo_disk.specs.{Call}
use Rattle.redo_disk.specs.Sight.{Seen}
use Rattle.redo_drive.proofs.Viewed.{length_views}
use Rattle.redo_drive.specs.Begins.{BeginsWith}
use Rattle.redo_drive.specs.Lists.{AreLists}
use Rattle.redo_drive.specs.Running.{run_log_side}
use Rattle.redo_drive.specs.Startable.{MayBegin}
use Rattle.redo_drive.specs.History.{view_of, views_of}
use Rattle.redo_drive.specs.declared.actor.Actor.{Actor}
use Rattle.redo_drive.specs.declared.making.Beginning.{Beginning}
use Rattle.redo_follow.specs.Following.{Following}
use Rattle.redo_ownmachine.proofs.Begins as own_begins
use Rattle.redo_ownmachine.specs.OwnCrew as own_crew
use Rattle.redo_ownmachine.proofs.Places.{crew_views}
use Rattle.redo_ownrule.proofs.Crews.{own_users}
use Rattle.redo_ownrule.proofs.Left.{many_workers}
use Rattle.redo_ownrule.proofs.Placed.{length_crew}
use Rattle.redo_ownrule.proofs.Standing.{all_stand, crew_there, first_seated, places_apart, plain_actors, same_crew}
use Rattle.redo_ownrule.proofs.Standing.{side_is, side_of, users_home}
use Rattle.redo_ownrule.specs.Players.{actor_of, AreInOrder, crew, place, seated, UsersFirst, workers}
use Rattle.redo_ownrule.specs.Sharing.{IsUnseated}
use Rattle.redo_ownrule.specs.Staffing.{AreStaffOf}
use Rattle.redo_ownrule.specs.declared.player.Player.{Player}
use Rattle.redo_ownrule.specs.declared.shared.Shared.{Shared}
use Rattle.redo_ownrule.specs.declared.staffing.Staff.{Staff}
use Rattle.redo_rule.proofs.Opens as opens
use Rattle.redo_store.specs.{IsRunnable}
use Rattle.redo_words.specs.{shape_layout}
use Rattle.model_core.specs.declared.words.Layout.{Layout}
use Rattle.redo_rule.specs.Cutting.{IsFirst}
use Rattle.redo_rule.specs.OwnSide.{HasItsWork}
use Rattle.redo_rule.specs.Ruled.{first_view, none_heard, numbered, own_numbered, Ruled, starts_about}
use Rattle.redo_rule.specs.Seating.{IsCleaner}
use Rattle.redo_rule.specs.declared.law.About.{About}
use Rattle.redo_rule.specs.declared.law.Keeping.{Keeping}
use Rattle.redo_rule.specs.declared.law.Numbered.{Numbered}
use Rattle.redo_rule.specs.declared.law.Slot.{Slot}
use Rattle.redo_rule.specs.declared.law.View.{View}

-- the cleaner has its own seat
pub cleaner_place : (c : Setup) (seat_of : ℕ → ℕ) (writer n : ℕ) (a : model.Actor) → StartActor c seat_of writer n a
    → IsCleaner a → n ≡ c.cleaner
cleaner_place c seat_of writer n (model.Cleaner v) is cleaner = is.0
cleaner_place c seat_of writer n _ is cleaner = absurd cleaner

its_state : (a : model.Actor) → IsCleaner a → (v : CleanerState) × (a ≡ model.Cleaner v)
its_state (model.Cleaner v) is = (v, refl)
its_state _ is = absurd is

pub none_there : {live : Bool} (c : Setup) (actors : List model.Actor) → AreSeated live c actors → c.log_only ≡ true
    → (i : ℕ) (a : model.Actor) → get_elem? actors i ≡ maybe.some a → IsCleaner a → ⊥
none_there c actors S alone i a at is =
    let v = its_state a is in
    no_cleaner c actors S alone i v.0 (at ∙ ap (λ (z : model.Actor). maybe.some z) v.1)

-- who stands at a place
player_at : {R : Type 0} (ps : List (Player R)) (i : ℕ) (a : model.Actor)
    → get_elem? (views_of (map actor_of ps)) i ≡ maybe.some a
    → (p : Player R) × (get_elem? ps i ≡ maybe.some p) × (view_of (actor_of p) ≡ a)
player_at [] i a at = absurd (maybe.some-ne-none a (sym at))
player_at (p ∷ ps) zero a at = (p, refl, maybe.some-injective (view_of (actor_of p)) a at)
player_at (p ∷ ps) (suc i) a at = player_at ps i a at

module _ {L D R : Type 0} (log_seen : L → Seen) (data_seen : D → Seen) (stands : R → List Given → Type 0)
    (about : About L D) (fixed : about.live ≡ None) (followers : List (Following R))
    (start : Beginning L D R)
    (B : BeginsWith log_seen data_seen stands about.opened.value about.script.value about.plan followers start)
    (may : MayBegin about.opened.value about.script.value about.plan.log_only) (staff : Staff R)
    (S : AreStaffOf about.own_writes start.actors.items staff) where
  abbrev ps : List (Player R)
  ps = staff.players.items

  abbrev actors : List model.Actor
  actors = views_of start.actors.items

  crew_is : ◌≡◌ {A = List model.Actor} actors (views_of (crew staff.work ps))
  crew_is = ap (λ (l : List (Actor R)). views_of l) (sym S.are)

  pub starts_are : ◌≡◌ {A = List model.Actor} (starts_about about) (views_of (crew staff.work ps))
  starts_are = sym (opens.are log_seen data_seen stands about fixed followers start B) ∙ crew_is

  first_is_seated : ◌≡◌ {A = List Numbered} (first_view about).seats
      (seated (place about.own_writes ps) none_heard 0 ps)
  first_is_seated =
      ap (λ (l : List model.Actor). cond about.own_writes (own_numbered 0 l) (numbered none_heard 0 l)) starts_are
      ∙ first_seated about.own_writes staff.work S.works ps S.order S.others S.at_home

  stand : opens.AllStand (side_of staff.work ps) actors (first_view about).seats
  stand = all_stand about.own_writes staff.work S.works ps S.order S.at_home actors crew_is (first_view about).seats
      first_is_seated

  -- the log's work fits as the run begins
  own_works : (k : LogWork) → ◌≡◌ {A = List (Actor R)} (crew (Some k) ps) start.actors.items → UsersFirst ps
      → HasItsWork (run_log_side log_seen data_seen B.run) start.parts.log (side_of (Some k) ps) actors
  own_works k are first =
      let same : ◌≡◌ {A = List (Actor R)} (own_crew.crew (own_users ps) k (plain_actors ps)) start.actors.items =
      sym (same_crew k ps first) ∙ are in record {
        others = views_of (plain_actors ps);
        are = ap (λ (l : List (Actor R)). views_of l) (sym same) ∙ crew_views k (own_users ps) (plain_actors ps);
        errands = (own_begins.runs log_seen data_seen stands about.opened.value about.script.value about.plan
            followers start B may (own_users ps) k (plain_actors ps) same (users_home ps S.at_home)).errands;
      }

  works : (own : Bool) (work : Option LogWork) → is_some work ≡ own → AreInOrder own ps
      → ◌≡◌ {A = List (Actor R)} (crew work ps) start.actors.items
      → HasItsWork (run_log_side log_seen data_seen B.run) start.parts.log (side_of work ps) actors
  works own None is order are = tt
  works true (Some k) is order are = own_works k are order
  works false (Some k) is order are = absurd (cc)

  -- THE RULE HOLDS
  pub opens_players : (log_gives : L → Call → L → Type 0) (data_gives : D → Call → D → Type 0)
      (lists_are : AreLists start.parts.lists) (block : List ℕ) (ws : List ℕ) (xs : List (Slot L D))
      → ws ≡ start.parts.words.words
      → ◌≡◌ {A = List (Slot L D)} xs
      (opens.slots_of start.parts (record { block = block; own = side_of staff.work ps }))
      → Ruled log_seen log_gives data_seen data_gives about (opening ws xs (first_view about))
  opens_players log_gives data_gives lists_are block ws xs words slots =
      opens.opens_ok log_seen log_gives data_seen data_gives stands about fixed followers start B lists_are
      (record { block = block; own = side_of staff.work ps })
      (sym S.works ∙ sym (side_is staff.work ps)) (works about.own_writes staff.work S.works S.order S.are)
      stand ws xs words slots

  -- NO PLAYER HAS ITS SEAT YET
  module _ (shared : Shared L D R) (key : shared.board.shared.key ≡ about)
      (of : shared.first.table_id ≡ shared.board.shared.table_id) (slots : shared.board.shared.table_id.slots ≡ 6)
      (words : shared.board.shared.table_id.words ≡ word_count start.parts.words.layout)
      (me : shared.first.me ≡ (first_view about, []))
      (laid : ◌≡◌ {A = Layout} shared.layout (shape_layout about.opened.value.shape)) (no_entries : shared.entries.items ≡ [])
      (room : length about.script.value ≤ vec_capacity shared.entries) (room_is : shared.actors ≡ staff.room)
      (has_room : IsSome shared.seats)
      (fits : IfSome shared.seats (λ v. (v.items ≡ []) × (length ps ≤ vec_capacity v))) where
    view : shared.first.me.0 ≡ first_view about
    view = ap (λ (m : Me (Slot L D) (View L D)). m.0) me

    layout_is : ◌≡◌ {A = Layout} (shape_layout about.opened.value.shape) start.parts.words.layout
    layout_is = ap shape_layout (sym B.is_run.shape)
        ∙ opens.same_layout B.run.shape B.run.setup B.from.runs.its_pages B.from.runs.its_page_size
        ∙ sym B.from.runs.running.layout_is

    first_is : IsFirst shared.board.shared.table_id shared.first
    first_is = record {
      of = of;
      slots = slots;
      words = words ∙ ap word_count (sym layout_is ∙ sym (ap (λ (v : View L D). v.layout) view));
      none = ap (λ (m : Me (Slot L D) (View L D)). m.1) me;
      empty = ap (λ (v : View L D). v.held) view;
      rest = λ i y e.
          let there = stand i y (ap (λ (v : View L D). get_elem? v.seats i) (sym view) ∙ e) in (
            opens.fresh log_seen data_seen stands about fixed followers start B y.number y.actor there.here,
            there.idle,
          );
      home = λ d has. sym (ap (λ (o : Option (Keeping D)). opens.is_out o)
          (sym (ap (λ (v : View L D). v.data_part) view) ∙ has));
    }

    count : length ps + workers about.own_writes ≡ length (starts_about about)
    count =
        let n = length_crew staff.work ps in
        let k = many_workers R staff.work ∙ ap workers S.works in
        let m = length_views (crew staff.work ps) in
        let s = ap (λ (l : List model.Actor). length l) starts_are in omega arith

    fit : length (starts_about about) ≤ vec_capacity shared.actors
    fit =
        let s = ap (λ (l : List model.Actor). length l)
        (sym (opens.are log_seen data_seen stands about fixed followers start B)) in
        let m = length_views start.actors.items in
        let r = S.room in
        let same = ap vec_capacity room_is in omega arith

    -- where it stands as the run begins
    placed_at : (i : ℕ) (a : model.Actor) → get_elem? (views_of (map actor_of ps)) i ≡ maybe.some a
        → get_elem? actors (place about.own_writes ps i) ≡ maybe.some a
    placed_at i a at =
        let p = player_at ps i a at in
        ap (λ (l : List model.Actor). get_elem? l (place about.own_writes ps i)) crew_is
        ∙ crew_there about.own_writes staff.work S.works ps i p.0 p.1
        ∙ ap (λ (z : model.Actor). maybe.some z) p.2

    starts : (i : ℕ) (a : model.Actor) → get_elem? (views_of (map actor_of ps)) i ≡ maybe.some a → IsCleaner a
        → place about.own_writes ps i ≡ B.run.setup.cleaner
    starts i a at is = cleaner_place B.run.setup B.at_start.seat_of B.at_start.writer (place about.own_writes ps i) a
        (B.at_start.starts.each (place about.own_writes ps i) a (placed_at i a at)) is

    own_same : shared.board.shared.key.own_writes ≡ about.own_writes
    own_same = ap (λ (z : About L D). z.own_writes) key

    pub unseated : IsUnseated shared ps
    unseated = record {
      ready = record {
        runnable = subst (λ (z : About L D). IsRunnable z.opened.value) (sym key) may.runnable;
        may = λ _. subst (λ (z : About L D). MayBegin z.opened.value z.script.value z.plan.log_only) (sym key) may;
        no_entries = no_entries;
        room = λ _. subst (λ (z : About L D). length z.script.value ≤ vec_capacity shared.entries) (sym key) room;
        no_actors = subst (λ (v : Vec (Actor R) Global). v.items ≡ []) (sym room_is) S.empty;
        actors_fit = subst (λ (z : About L D). length (starts_about z) ≤ vec_capacity shared.actors) (sym key) fit;
      };
      order = subst (λ (b : Bool). AreInOrder b ps) (sym own_same) S.order;
      count = subst (λ (z : About L D). length ps + workers z.own_writes ≡ length (starts_about z)) (sym key) count;
      one_cleaner = λ i j a b at bt is jt.
          places_apart about.own_writes ps i j (starts i a at is ∙ sym (starts j b bt jt));
      no_cleaner = λ alone i a at is. none_there B.run.setup actors B.from.runs.seated
          (B.is_run.log_only_is ∙ sym (ap (λ (z : About L D). z.plan.log_only) key) ∙ alone)
          (place about.own_writes ps i) a (placed_at i a at) is;
      first = first_is;
      layout = ap (λ (v : View L D). v.layout) view ∙ sym laid;
      told = ap (λ (v : View L D). v.about) view ∙ ap Some (sym key);
      all = ap (λ (v : View L D). v.seats) view ∙ first_is_seated
          ∙ ap (λ (b : Bool). seated (place b ps) none_heard 0 ps) (sym own_same);
      part = (about.opened.value.store, ap (λ (v : View L D). v.data_part) view);
      has_room = has_room;
      seats_fit = fits;
    }
