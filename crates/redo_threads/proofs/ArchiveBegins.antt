-- The archive of a run in threads, as it begins; and whose it is at its end.
use Rattle.std.proofs.Common.{Bool, List, None, Option, Some, [], ap, arith, false, is_some, length, map, refl, subst, suc, sym, true, zero, ℕ, ⊎_elim, ◌*◌, ◌+◌, ◌∙◌, ◌∷◌, ◌≡◌, ◌≤◌}
use lib.ListN.{get_elem?}
use mathlib.Core.Option as maybe
use Rattle.atomic_table.specs.Seated.{TableId}
use Rattle.atomic_table.specs.declared.shared.Seat.{Seat}
use Rattle.model_base.specs.declared.shape.Shape.{Shape}
use Rattle.model_core.specs.{archives, Given, new_reader, ReaderState}
use Rattle.model_core.specs.States as model
use Rattle.model_log.specs.{IsAtDataStart, lsn_of, sn_of, stream_of}
use Rattle.model_own.specs.{LogWork}
use Rattle.model_script.specs.{group_of}
use Rattle.redo_archive.specs.Part.{Part}
use Rattle.redo_archiver.proofs.Longer.{part-longer}
use Rattle.redo_archiver.specs.{append_code}
use Rattle.redo_disk.specs.{Call, Seen}
use Rattle.redo_disk.specs.declared.error.DevError.{DevError}
use Rattle.redo_disk.specs.declared.error.DevError.TheVariants.{Failed}
use Rattle.redo_drive.proofs.CallsOn.{not_called}
use Rattle.redo_drive.proofs.Viewed.{views_at}
use Rattle.redo_drive.specs.Begins.{EndsWithReaders}
use Rattle.redo_drive.specs.Setups.{seated_actors}
use Rattle.redo_drive.specs.{IsNewArchive, MayBegin, view_of, views_of}
use Rattle.redo_drive.specs.declared.actor.Actor.{Actor}
use Rattle.redo_drive.specs.declared.actor.Actor.TheVariants as own
use Rattle.redo_ownrule.proofs.Placed.{alone}
use Rattle.redo_ownrule.proofs.Standing.{places_apart}
use Rattle.redo_ownrule.specs.Players.{actor_of, crew, place}
use Rattle.redo_ownrule.specs.Sharing.{opened_of, own_of, shared_script}
use Rattle.redo_ownrule.specs.declared.player.Player.{Player}
use Rattle.redo_ownrule.specs.declared.player.Player.TheVariants as player
use Rattle.redo_ownrule.specs.declared.shared.Shared.{Shared}
use Rattle.redo_rule.proofs.Gathered.{there}
use Rattle.redo_rule.specs.Closing.{TellsLoss}
use Rattle.redo_rule.specs.Handing.{nothing}
use Rattle.redo_rule.specs.Mine.{heard_of}
use Rattle.redo_rule.specs.Ruled.{starts_with}
use Rattle.redo_rule.specs.Sharing.{AreFresh}
use Rattle.redo_rule.specs.declared.law.About.{About}
use Rattle.redo_rule.specs.declared.law.Heard.{Heard}
use Rattle.redo_rule.specs.declared.law.Slot.{Slot}
use Rattle.redo_rule.specs.declared.law.View.{View}
use Rattle.redo_threads.proofs.Ending.{past}
use Rattle.redo_threads.proofs.Keeping.{gone_at, keep_long}
use Rattle.redo_threads.proofs.Readers.{archiver_is, archiver_there, archives_at, front}
use Rattle.redo_threads.proofs.StaysReader.{crew_at, one_state, same_actor, was_reader}
use Rattle.redo_threads.specs.Archiving.{Archives, BeginsWithReaders, IsArchiving, KeepsArchive, MayBeArchived}
use Rattle.redo_threads.specs.Working.{KeepOn}
use Rattle.redo_threads.specs.declared.crew.Crew.{Crew}

-- whose actor is the archiver is it
archiving_of : {F : Type 0} (p : Player F) (s : ReaderState) → ◌≡◌ {A = Actor F} (actor_of p) (own.Archiver s) → IsArchiving p
archiving_of (player.Plain (own.Archiver r)) s is = tt
archiving_of (player.Plain (own.User u)) s is = absurd (cc)
archiving_of (player.Plain (own.Writer u)) s is = absurd (cc)
archiving_of (player.Plain (own.Flusher u)) s is = absurd (cc)
archiving_of (player.Plain (own.Closer u)) s is = absurd (cc)
archiving_of (player.Plain (own.Cleaner u)) s is = absurd (cc)
archiving_of (player.Plain (own.Checkpointer u)) s is = absurd (cc)
archiving_of (player.Plain (own.Follower u)) s is = absurd (cc)
archiving_of (player.Own o) s is = absurd (cc)

-- the player whose actor stands there
played_there : {F : Type 0} (ps : List (Player F)) (i : ℕ) (a : Actor F) → get_elem? (map actor_of ps) i ≡ maybe.some a
    → (p : Player F) × (get_elem? ps i ≡ maybe.some p) × (actor_of p ≡ a)
played_there [] i a at = absurd (maybe.some-ne-none a (sym at))
played_there (p ∷ ps) zero a at = (p, refl, maybe.some-injective (actor_of p) a at)
played_there (p ∷ ps) (suc i) a at = played_there ps i a at

viewed_there : {F : Type 0} (ps : List (Player F)) (i : ℕ) (a : model.Actor)
    → get_elem? (views_of (map actor_of ps)) i ≡ maybe.some a
    → (p : Player F) × (get_elem? ps i ≡ maybe.some p) × (view_of (actor_of p) ≡ a)
viewed_there [] i a at = absurd (maybe.some-ne-none a (sym at))
viewed_there (p ∷ ps) zero a at = (p, refl, maybe.some-injective (view_of (actor_of p)) a at)
viewed_there (p ∷ ps) (suc i) a at = viewed_there ps i a at

pub record Found {F : Type 0} (ps : List (Player F)) : Type 0 where
  pub place : ℕ
  pub one : Player F
  pub at : get_elem? ps place ≡ maybe.some one
  pub archives : IsArchiving one

found : {F : Type 0} (ps : List (Player F)) (i : ℕ) (s : ReaderState)
    → get_elem? (map actor_of ps) i ≡ maybe.some (own.Archiver s) → Found ps
found ps i s at = let p = played_there ps i (own.Archiver s) at in
    record { place = i; one = p.0; at = p.1; archives = archiving_of p.0 s p.2 }

found_more : {F : Type 0} (p : Player F) (ps : List (Player F)) → Found ps → Found (p ∷ ps)
found_more p ps f = record { place = suc f.place; one = f.one; at = f.at; archives = f.archives }

-- the archiver among the actors of players is one of these
crew_archiver : {F : Type 0} (work : Option LogWork) (ps : List (Player F)) (n : ℕ) (s : ReaderState)
    → get_elem? (crew work ps) n ≡ maybe.some (own.Archiver s) → Found ps
crew_archiver None [] n s at = absurd (maybe.some-ne-none _ (sym at))
crew_archiver (Some k) [] zero s at = absurd (let e = maybe.some-injective _ (own.Archiver s) at in cc)
crew_archiver (Some k) [] (suc zero) s at = absurd (let e = maybe.some-injective _ (own.Archiver s) at in cc)
crew_archiver (Some k) [] (suc (suc n)) s at = absurd (maybe.some-ne-none _ (sym at))
crew_archiver work (player.Own o ∷ ps) zero s at = absurd (let e = maybe.some-injective _ (own.Archiver s) at in cc)
crew_archiver work (player.Own o ∷ ps) (suc n) s at = found_more (player.Own o) ps (crew_archiver work ps n s at)
crew_archiver None (player.Plain a ∷ ps) n s at = found (player.Plain a ∷ ps) n s at
crew_archiver (Some k) (player.Plain a ∷ ps) zero s at = absurd (let e = maybe.some-injective _ (own.Archiver s) at in cc)
crew_archiver (Some k) (player.Plain a ∷ ps) (suc zero) s at = absurd (let e = maybe.some-injective _ (own.Archiver s) at in cc)
crew_archiver (Some k) (player.Plain a ∷ ps) (suc (suc n)) s at = found (player.Plain a ∷ ps) n s at

-- a reader among the actors of players is one of these, at its place
pub record Reads {F : Type 0} (b : Bool) (ps : List (Player F)) (m : ℕ) (x : ReaderState) : Type 0 where
  pub index : ℕ
  pub one : Player F
  pub at : get_elem? ps index ≡ maybe.some one
  pub is : view_of (actor_of one) ≡ model.Reader x
  pub place_is : m ≡ place b ps index

reads_behind : {F : Type 0} (k : LogWork) (ps : List (Player F)) (m : ℕ) (x : ReaderState)
    → get_elem? (views_of (crew (Some k) ps)) m ≡ maybe.some (model.Reader x) → Reads true ps m x
reads_behind k [] zero x at = absurd (let e = maybe.some-injective _ (model.Reader x) at in cc)
reads_behind k [] (suc zero) x at = absurd (let e = maybe.some-injective _ (model.Reader x) at in cc)
reads_behind k [] (suc (suc m)) x at = absurd (maybe.some-ne-none _ (sym at))
reads_behind k (player.Plain a ∷ ps) zero x at = absurd (let e = maybe.some-injective _ (model.Reader x) at in cc)
reads_behind k (player.Plain a ∷ ps) (suc zero) x at = absurd (let e = maybe.some-injective _ (model.Reader x) at in cc)
reads_behind k (player.Plain a ∷ ps) (suc (suc m)) x at =
    let p = viewed_there (player.Plain a ∷ ps) m (model.Reader x) at in
    record { index = m; one = p.0; at = p.1; is = p.2; place_is = refl }
reads_behind k (player.Own o ∷ ps) zero x at = absurd (let e = maybe.some-injective _ (model.Reader x) at in cc)
reads_behind k (player.Own o ∷ ps) (suc m) x at = let r = reads_behind k ps m x at in
    record { index = suc r.index; one = r.one; at = r.at; is = r.is; place_is = ap suc r.place_is }

crew_reads : {F : Type 0} (b : Bool) (work : Option LogWork) → is_some work ≡ b → (ps : List (Player F)) (m : ℕ) (x : ReaderState)
    → get_elem? (views_of (crew work ps)) m ≡ maybe.some (model.Reader x) → Reads b ps m x
crew_reads true None works ps m x at = absurd (cc)
crew_reads true (Some k) works ps m x at = reads_behind k ps m x at
crew_reads false (Some k) works ps m x at = absurd (cc)
crew_reads {F} false None works ps m x at =
    let p = viewed_there ps m (model.Reader x)
    (ap (λ (l : List (Actor F)). get_elem? (views_of l) m) (alone ps) ∙ at) in
    record { index = m; one = p.0; at = p.1; is = p.2; place_is = refl }

-- whose archive it is
pub record Owner {L D A F : Type 0} (seen : A → Seen) (gives : A → Call → A → Type 0) (about : About L D)
    (before : Part A) (v : View L D) (p : Player F) (archive : Option (Part A)) : Type 0 where
  pub state : ReaderState
  pub part : Part A
  pub player_is : ◌≡◌ {A = Player F} p (player.Plain (own.Archiver state))
  pub archive_is : archive ≡ Some part
  pub archives : Archives seen gives about before v state part

pub owner : {L D A F : Type 0} (seen : A → Seen) (gives : A → Call → A → Type 0) (about : About L D) (before : Part A)
    (v : View L D) (p : Player F) (archive : Option (Part A)) → KeepsArchive seen gives about before v p archive
    → Owner seen gives about before v p archive
owner seen gives about before v (player.Plain (own.Archiver r)) (Some part) keeps =
    record { state = r; part = part; player_is = refl; archive_is = refl; archives = keeps }
owner seen gives about before v _ _ keeps = absurd keeps

module _ {L D A F : Type 0} (seen : A → Seen) (shared : Shared L D F) (players : List (Player F))
    (B : BeginsWithReaders shared players) (fixed : shared.board.shared.key.live ≡ None) where
  abbrev key : About L D
  key = shared.board.shared.key

  abbrev start : ℕ
  start = key.opened.value.start

  abbrev cs : List (Actor F)
  cs = crew B.work players

  are : views_of cs ≡ seated_actors key.opened.value.shape key.script.value start key.plan
  are = sym B.actors_are ∙ ap (starts_with key) fixed

  is_new : (i : ℕ) (r : ReaderState) → get_elem? players i ≡ maybe.some (player.Plain (own.Archiver r))
      → ◌≡◌ {A = ReaderState} r (new_reader 0 start)
  is_new i r at = archiver_is key.opened.value.shape key.script.value start key.plan cs B.followers B.many are
      B.readers (place (own_of shared) players i) r
      (crew_at (own_of shared) B.work B.works players i (player.Plain (own.Archiver r)) at)

  module _ (gives : A → Call → A → Type 0) (part : Part A)
      (new : IsNewArchive seen (opened_of shared) (shared_script shared) part)
      (may : MayBegin (opened_of shared) (shared_script shared) key.plan.log_only) where
    -- A NEW ARCHIVE stands beside a new archiver.
    its_archives : (v : View L D) → v.about ≡ Some key → ◌≡◌ {A = Heard} (heard_of v) nothing
        → Archives seen gives key part v (new_reader 0 start) part
    its_archives v told none =
        let place = may.runnable.place in
        let mark : part.marks.mark ≡ start = ap (λ (z : _). z.mark) new.begun in
        let number : part.marks.number ≡ 0 = ap (λ (z : _). z.number) new.begun in
        let asked : part.marks.asked ≡ start = ap (λ (z : _). z.asked) new.begun in
        let from = new.start in
        let n : ℕ = length (stream_of (map (group_of key.opened.value.shape.space) key.script.value)) in
        let low : start ≤ lsn_of (sn_of start + n) = omega arith in
        record {
          told = told;
          fixed = fixed;
          may = may;
          same = record {
            shape = refl;
            start = refl;
            size = refl;
            later = omega arith;
            risen = λ failed. let z : None ≡ Some Failed = sym new.live ∙ failed in absurd (cc);
            calls = not_called gives part.dev part.failed;
          };
          flushed = start;
          pace = record {
            kind = refl;
            start = subst IsAtDataStart (sym new.start) place;
            mark = omega arith;
            counted = omega arith;
            lost = sym (ap append_code new.live);
            round = refl;
            loaded = omega arith;
            up_to = omega arith;
            within = low;
            small = may.fits.end;
            room = (let room = new.room in
                let pages : part.shape.pages ≡ key.opened.value.shape.pages = ap (λ (z : Shape). z.pages) new.shape in
                let size : part.shape.page_size ≡ key.opened.value.shape.page_size =
                ap (λ (z : Shape). z.page_size) new.shape in
                let all : part.shape.pages * part.shape.page_size
                ≡ key.opened.value.shape.pages * key.opened.value.shape.page_size =
                ap (λ (n : ℕ). n * part.shape.page_size) pages
                ∙ ap (λ (n : ℕ). key.opened.value.shape.pages * n) size in
                omega arith);
          };
          later = omega arith;
          live = λ is. asked ∙ sym mark;
          over = λ failed. absurd (failed new.live);
          archives = λ pages begun wholes run all. part-longer seen pages [] wholes part run begun;
        }

    pub may_be : (x : Crew L D F) → x.players.items ≡ players → AreFresh (Some key) x.seats.items
        → key.plan.archive ≡ true → MayBeArchived seen gives key part x part
    may_be x is fresh archived =
        let f = subst (λ (l : List (Player F)). Found l) (sym is) (crew_archiver B.work players _ (new_reader 0 start)
        (archiver_there start B.followers cs
        (subst (λ (b : Bool). EndsWithReaders start b cs B.followers) archived B.readers))) in
        record {
          place = f.place;
          one = f.one;
          at = f.at;
          archives = f.archives;
          each = λ i s p sits at archiving. its i s p sits (sym (ap (λ (l : List (Player F)). get_elem? l i) is) ∙ at) archiving;
        }
      where
        its : (i : ℕ) (s : Seat (Slot L D) (View L D)) (p : Player F) → get_elem? x.seats.items i ≡ maybe.some s
            → get_elem? players i ≡ maybe.some p → IsArchiving p
            → KeepsArchive seen gives key part s.me.0 p (Some part)
        its i s (player.Plain (own.Archiver r)) sits at archiving =
            subst (λ (z : ReaderState). Archives seen gives key part s.me.0 z part) (sym (is_new i r at))
            (its_archives s.me.0 (fresh.knows i s sits) (fresh.none i s sits))
        its i s (player.Plain (own.User u)) sits at archiving = absurd archiving
        its i s (player.Plain (own.Writer u)) sits at archiving = absurd archiving
        its i s (player.Plain (own.Flusher u)) sits at archiving = absurd archiving
        its i s (player.Plain (own.Closer u)) sits at archiving = absurd archiving
        its i s (player.Plain (own.Cleaner u)) sits at archiving = absurd archiving
        its i s (player.Plain (own.Checkpointer u)) sits at archiving = absurd archiving
        its i s (player.Plain (own.Follower u)) sits at archiving = absurd archiving
        its i s (player.Own o) sits at archiving = absurd archiving

  -- AT THE END whoever archives is the archiver that began so.
  module _ (stands : F → List Given → Type 0) (table : TableId) (x y : Crew L D F) (is : x.players.items ≡ players)
      (many : length x.seats.items ≡ length x.players.items) (keep : KeepOn stands table x y) where
    same_front : (i : ℕ) (q : Player F) (z : ReaderState) → get_elem? y.players.items i ≡ maybe.some q
        → view_of (actor_of q) ≡ model.Reader z → archives z ≡ true
        → place (own_of shared) players i
        ≡ length (front key.opened.value.shape key.script.value start key.plan cs)
    same_front i q z at q_is kind =
        let l = past y.players.items i q at in
        let c = keep.count in
        let k = keep_long stands table x y many keep in
        let t = there y.seats.items i (omega arith) in
        let p = there x.players.items i (omega arith) in
        let g = (gone_at stands table x y keep i t.0 p.0 q t.1 p.1 at).2 in
        let w = was_reader (actor_of p.0) (actor_of q) z q_is kind (same_actor p.0 q g.player) g.same.same in
        let here : get_elem? players i ≡ maybe.some p.0 = ap (λ (l : List (Player F)). get_elem? l i) (sym is) ∙ p.1 in
        let crewed = crew_at (own_of shared) B.work B.works players i p.0 here in
        let viewed : get_elem? (views_of cs) (place (own_of shared) players i) ≡ maybe.some (model.Reader w.state) =
        views_at cs (place (own_of shared) players i) (actor_of p.0) crewed ∙ ap maybe.some w.is in
        archives_at key.opened.value.shape key.script.value start key.plan cs are
        (place (own_of shared) players i) w.state viewed
        (⊎_elim (λ so. so) (λ so. ap (λ (r : ReaderState). archives r)
        (archiver_is key.opened.value.shape key.script.value start key.plan cs B.followers B.many are B.readers
        (place (own_of shared) players i) w.state (crewed ∙ ap maybe.some so))) w.kind)

    same_player : (i j : ℕ) (q p : Player F) (z w : ReaderState) → get_elem? y.players.items i ≡ maybe.some q
        → get_elem? y.players.items j ≡ maybe.some p → view_of (actor_of q) ≡ model.Reader z → archives z ≡ true
        → view_of (actor_of p) ≡ model.Reader w → archives w ≡ true → i ≡ j
    same_player i j q p z w at bt q_is kind p_is kind_p = places_apart (own_of shared) players i j
        (same_front i q z at q_is kind ∙ sym (same_front j p w bt p_is kind_p))

    module _ (place_k : ℕ) (then : Player F) (then_at : get_elem? y.players.items place_k ≡ maybe.some then) (r : ReaderState)
        (then_is : ◌≡◌ {A = Player F} then (player.Plain (own.Archiver r))) (kind : archives r ≡ true) where
      then_view : view_of (actor_of then) ≡ model.Reader r
      then_view = ap (λ (p : Player F). view_of (actor_of p)) then_is

      pub tells_loss : (lost : Option DevError) → r.lost ≡ append_code lost
          → TellsLoss true (views_of (map actor_of y.players.items)) lost
      tells_loss lost lost_is n z at kind_z =
          let q = viewed_there y.players.items n (model.Reader z) at in
          let same = same_player n place_k q.0 then z r q.1 then_at q.2 kind_z then_view kind in
          let one : ◌≡◌ {A = ReaderState} r z = one_state r z (sym then_view
          ∙ ap (λ (p : Player F). view_of (actor_of p)) (maybe.some-injective then q.0
          (sym then_at ∙ ap (get_elem? y.players.items) (sym same) ∙ q.1)) ∙ q.2) in
          ap (λ (s : ReaderState). s.lost) (sym one) ∙ lost_is

      module _ (work : Option LogWork) (works : is_some work ≡ own_of shared) (actors : List (Actor F))
          (actors_are : ◌≡◌ {A = List (Actor F)} actors (crew work y.players.items)) where
        abbrev pub its_place : ℕ
        its_place = place (own_of shared) y.players.items place_k

        pub stands_there : get_elem? (views_of actors) its_place ≡ maybe.some (model.Reader r)
        stands_there = views_at actors its_place (actor_of then)
            (ap (λ (l : List (Actor F)). get_elem? l its_place) actors_are
            ∙ crew_at (own_of shared) work works y.players.items place_k then then_at) ∙ ap maybe.some then_view

        pub only_there : (m : ℕ) (z : ReaderState) → get_elem? (views_of actors) m ≡ maybe.some (model.Reader z)
            → archives z ≡ true → m ≡ its_place
        only_there m z at kind_z =
            let q = crew_reads (own_of shared) work works y.players.items m z
            (ap (λ (l : List (Actor F)). get_elem? (views_of l) m) (sym actors_are) ∙ at) in
            let same = same_player q.index place_k q.one then z r q.at then_at q.is kind_z then_view kind in
            q.place_is ∙ ap (place (own_of shared) y.players.items) same
