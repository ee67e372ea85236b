-- A player more gets its seat, and the last seat is taken in.
use Rattle.std.proofs.Common.{Bool, List, None, Option, Some, [], ap, arith, cond, drop, false, inl, inr, length, length-append, map, refl, subst, suc, sym, true, zero, ℕ, ⊎_elim, ◌++◌, ◌+◌, ◌<◌, ◌∙◌, ◌∷◌, ◌≡◌, ◌≤◌, ◌⊎◌, get_or}
use lib.ListN.{get_elem?}
use mathlib.Core.Option as maybe
use native.Mathlib.Decide.{ℕ_discrete}
use Rattle.atomic_table.proofs.Lists.{at_last, at_longer, drop_at}
use Rattle.atomic_table.specs.Seated.{TableId}
use Rattle.atomic_table.specs.Table.{Allows, Me}
use Rattle.atomic_table.specs.declared.shared.Seat.{Seat}
use Rattle.model_core.specs.{word_count, HoldsNothing}
use Rattle.model_core.specs.States as model
use Rattle.model_own.specs.{OwnUser, has_work}
use Rattle.redo_disk.specs.{Call, Seen}
use Rattle.redo_drive.specs.{view_of, views_of}
use Rattle.redo_ownrule.proofs.OwnAllowed.{own_look}
use Rattle.redo_ownrule.specs.Gathering.{AreHandedOut, HasPlayer, IsHeadOf}
use Rattle.redo_ownrule.specs.OwnMine.{CarriesWork, OwnMine}
use Rattle.redo_ownrule.specs.OwnPlays.{errand_of, IsOwn, own_looked}
use Rattle.redo_ownrule.specs.Players.{actor_of, IsAtRest, numbered_as, place, place_behind, seated}
use Rattle.redo_ownrule.specs.Playing.{IsPlayerSeat}
use Rattle.redo_ownrule.specs.Sharing.{AllAtRest}
use Rattle.redo_ownrule.specs.declared.player.Player.{Player}
use Rattle.redo_ownrule.specs.declared.player.Player.TheVariants as player
use Rattle.redo_rule.proofs.Gathered.{at_or, there}
use Rattle.redo_rule.proofs.Seated.{at_end}
use Rattle.redo_rule.specs.Cutting.{IsFirst, IsHome, MayTakeIn}
use Rattle.redo_rule.specs.Gathering.{HasOneCleaner, PartIsKept}
use Rattle.redo_rule.specs.Handing.{nothing}
use Rattle.redo_rule.specs.Mine.{heard_in, heard_of, number_in, number_of}
use Rattle.redo_rule.specs.OwnSide.{HasNoWork}
use Rattle.redo_rule.specs.Plays.{Carries}
use Rattle.redo_rule.specs.Ruled.{Ruled}
use Rattle.redo_rule.specs.Seating.{HasPart, IsCleaner}
use Rattle.redo_rule.specs.Seats.{cut_left, cut_right, first_numbered, first_some, heads_cleaner, is_cleaner, rest_numbered, taken_in}
use Rattle.redo_rule.specs.declared.law.About.{About}
use Rattle.redo_rule.specs.declared.law.Errand.{Errand}
use Rattle.redo_rule.specs.declared.law.Heard.{Heard}
use Rattle.redo_rule.specs.declared.law.Keeping.{Keeping}
use Rattle.redo_rule.specs.declared.law.Numbered.{Numbered}
use Rattle.redo_rule.specs.declared.law.Slot.{Slot}
use Rattle.redo_rule.specs.declared.law.View.{View}

-- whether it is the cleaner
told_cleaner : (a : model.Actor) → (IsCleaner a × (is_cleaner a ≡ true)) ⊎ (is_cleaner a ≡ false)
told_cleaner (model.Cleaner v) = inl (tt, refl)
told_cleaner _ = inr refl

cleaner_true : (a : model.Actor) → IsCleaner a → is_cleaner a ≡ true
cleaner_true (model.Cleaner v) is = refl
cleaner_true _ is = absurd is

cut_part_is : {D : Type 0} (b : Bool) (o : Option (Keeping D)) (d : Keeping D) → cond b o None ≡ Some d → o ≡ Some d
cut_part_is true o d e = e
cut_part_is false o d e = absurd (cc)

module _ {R : Type 0} where
  abbrev pub views : List (Player R) → List model.Actor
  views players = views_of (map actor_of players)

  -- the actor that the definitions see of a player
  abbrev pub seen : Player R → model.Actor
  seen p = view_of (actor_of p)

  pub view_there : (players : List (Player R)) (i : ℕ) (p : Player R) → get_elem? players i ≡ maybe.some p
      → get_elem? (views players) i ≡ maybe.some (seen p)
  view_there [] i p e = absurd (maybe.some-ne-none p (sym e))
  view_there (x ∷ xs) zero p e = ap (λ (z : Player R). maybe.some (seen z)) (maybe.some-injective x p e)
  view_there (x ∷ xs) (suc i) p e = view_there xs i p e

  pub player_there : (players : List (Player R)) (i : ℕ) (a : model.Actor) → get_elem? (views players) i ≡ maybe.some a
      → (p : Player R) × (get_elem? players i ≡ maybe.some p) × (seen p ≡ a)
  player_there [] i a e = absurd (maybe.some-ne-none a (sym e))
  player_there (x ∷ xs) zero a e = (x, refl, maybe.some-injective (seen x) a e)
  player_there (x ∷ xs) (suc i) a e = player_there xs i a e

  pub views_length : (players : List (Player R)) → length (views players) ≡ length players
  views_length [] = refl
  views_length (x ∷ xs) = let e = views_length xs in omega arith

  number_same : (n : ℕ) (h : Heard) (p : Player R) → (numbered_as n h p).number ≡ n
  number_same n h (player.Plain a) = refl
  number_same n h (player.Own o) = refl

  actor_same : (n : ℕ) (h : Heard) (p : Player R) → (numbered_as n h p).actor ≡ seen p
  actor_same n h (player.Plain a) = refl
  actor_same n h (player.Own o) = refl

  heard_same : (n : ℕ) (h : Heard) (p : Player R) → ◌≡◌ {A = Heard} (numbered_as n h p).heard h
  heard_same n h (player.Plain a) = refl
  heard_same n h (player.Own o) = refl

  -- at rest it holds nothing and has no work
  at_rest : (n : ℕ) (h : Heard) (p : Player R) → IsAtRest p
      → HoldsNothing (numbered_as n h p).actor × HasNoWork (numbered_as n h p).errand
  at_rest n h (player.Plain a) rest = (rest, tt)
  at_rest n h (player.Own o) rest = (rest.0, rest.1)

  -- who stands in the list
  pub seated_at : (number : ℕ → ℕ) (heard : ℕ → Heard) (k : ℕ) (l : List (Player R)) (i : ℕ) (x : Numbered)
      → get_elem? (seated number heard k l) i ≡ maybe.some x
      → (p : Player R) × (get_elem? l i ≡ maybe.some p)
      × ◌≡◌ {A = Numbered} (numbered_as (number (k + i)) (heard (k + i)) p) x
  seated_at number heard k [] i x e = absurd (maybe.some-ne-none x (sym e))
  seated_at number heard k (y ∷ ys) zero x e = (
    y,
    refl,
    ap (λ (n : ℕ). numbered_as (number n) (heard n) y) (let z : k + 0 ≡ k = omega arith in z)
        ∙ maybe.some-injective (numbered_as (number k) (heard k) y) x e,
  )
  seated_at number heard k (y ∷ ys) (suc i) x e =
      let r = seated_at number heard (k + 1) ys i x e in (
        r.0,
        r.1,
        ap (λ (n : ℕ). numbered_as (number n) (heard n) r.0) (let z : k + suc i ≡ k + 1 + i = omega arith in z) ∙ r.2,
      )

  -- the player that was read
  pub players_at : (players : List (Player R)) (at n : ℕ) (p : Player R) → ◌≡◌ {A = Player R} p (get_or players at p) → at ≡ n
      → n < length players → get_elem? players n ≡ maybe.some p
  players_at players at n p is same less = subst (λ (m : ℕ). get_elem? players m ≡ maybe.some p) same
      (at_or players at p (let e = same in omega arith) ∙ ap (λ (q : Player R). maybe.some q) (sym is))

  -- the numbers are apart
  pub one_place : (own : Bool) (ps : List (Player R)) (i j : ℕ) → place own ps i ≡ place own ps j → i ≡ j
  one_place false ps i j e = e
  one_place true ps i j e = by ps i j e
    where
      by : (ps : List (Player R)) (i j : ℕ) → place_behind ps i ≡ place_behind ps j → i ≡ j
      by [] i j e = omega arith
      by (player.Plain a ∷ ps) i j e = omega arith
      by (player.Own o ∷ ps) zero zero e = refl
      by (player.Own o ∷ ps) zero (suc j) e = absurd (omega arith)
      by (player.Own o ∷ ps) (suc i) zero e = absurd (omega arith)
      by (player.Own o ∷ ps) (suc i) (suc j) e = ap suc (by ps i j (omega arith))

module _ {L D R : Type 0} where
  -- a player's seat
  seat_from : (table : TableId) (token : Seat (Slot L D) (View L D)) (p : Player R) → HasPlayer table token p
      → IsHome token.me.0 → (IsCleaner (seen p) → HasPart token.me.0) → IsPlayerSeat table token p
  seat_from table token (player.Plain a) mine home cleaner = record { mine = mine; home = home; cleaner = cleaner }
  seat_from table token (player.Own o) mine home cleaner = record { mine = mine; home = home }

  seat_cleaner : (table : TableId) (seat : Seat (Slot L D) (View L D)) (p : Player R) → IsPlayerSeat table seat p
      → IsCleaner (seen p) → HasPart seat.me.0
  seat_cleaner table seat (player.Plain a) S is = S.cleaner is
  seat_cleaner table seat (player.Own o) S is = absurd is

  -- what its view has
  seats_of : (table : TableId) (seat : Seat (Slot L D) (View L D)) (p : Player R) (n : ℕ) (h : Heard)
      → IsPlayerSeat table seat p → number_of seat.me.0 ≡ n → ◌≡◌ {A = Heard} (heard_of seat.me.0) h
      → seat.me.0.seats ≡ numbered_as n h p ∷ []
  seats_of table seat (player.Plain a) n h S number heard =
      let who = S.mine.who in
      S.mine.one ∙ ap (λ (x : Numbered). x ∷ [])
      (ap (λ (e : Option Errand). record { number = who.number; actor = who.actor; heard = who.heard; errand = e }) S.mine.plain
      ∙ ap (λ (n : ℕ). record { number = n; actor = who.actor; heard = who.heard; errand = None })
      (sym (ap number_in S.mine.one) ∙ number)
      ∙ ap (λ (b : model.Actor). record { number = n; actor = b; heard = who.heard; errand = None }) S.mine.state
      ∙ ap (λ (l : Heard). record { number = n; actor = view_of a; heard = l; errand = None })
      (sym (ap heard_in S.mine.one) ∙ heard))
  seats_of table seat (player.Own o) n h S number heard =
      let who = S.mine.who in
      S.mine.one ∙ ap (λ (x : Numbered). x ∷ [])
      (ap (λ (e : Option Errand). record { number = who.number; actor = who.actor; heard = who.heard; errand = e }) S.mine.own.errand
      ∙ ap (λ (n : ℕ). record { number = n; actor = who.actor; heard = who.heard; errand = Some (errand_of o) })
      (sym (ap number_in S.mine.one) ∙ number)
      ∙ ap (λ (b : model.Actor). record { number = n; actor = b; heard = who.heard; errand = Some (errand_of o) })
      S.mine.own.state
      ∙ ap (λ (l : Heard). record { number = n; actor = model.User o.user; heard = l; errand = Some (errand_of o) })
      (sym (ap heard_in S.mine.one) ∙ heard))

  seat_table : (table : TableId) (seat : Seat (Slot L D) (View L D)) (p : Player R) → IsPlayerSeat table seat p
      → (seat.table_id ≡ table) × (table.words ≡ word_count seat.me.0.layout) × IsHome seat.me.0
  seat_table table seat (player.Plain a) S = (S.mine.of, S.mine.words, S.home)
  seat_table table seat (player.Own o) S = (S.mine.of, S.mine.words, S.home)

  -- at rest it carries nothing
  seat_bare : (table : TableId) (seat : Seat (Slot L D) (View L D)) (p : Player R) → IsPlayerSeat table seat p
      → IsAtRest p → seat.me.1 ≡ []
  seat_bare table seat (player.Plain a) S rest = subst (λ (h : Option ℕ). Carries h seat.me) rest.no_slot S.mine.carries
  seat_bare table seat (player.Own o) S rest = subst (λ (h : Option ℕ). Carries h seat.me) rest.0.no_slot
      (subst (λ (b : Bool). CarriesWork b (model.User o.user) seat.me) rest.1 S.mine.carries)

  module _ (table : TableId) (number : ℕ → ℕ) (heard : ℕ → Heard) (players : List (Player R))
      (first : Seat (Slot L D) (View L D)) (seats : List (Seat (Slot L D) (View L D)))
      (A : AreHandedOut table number heard players first seats) where
    module _ (p : Player R) (p_at : get_elem? players (length seats) ≡ maybe.some p) where
      abbrev n : ℕ
      n = length seats

      abbrev others : List Numbered
      others = seated number heard (n + 1) (drop (suc n) players)

      are : first.me.0.seats ≡ numbered_as (number n) (heard n) p ∷ others
      are = A.others ∙ ap (seated number heard n) (drop_at players n p p_at)

      -- the numbers of players that are to get seats are apart
      pub head : ((i j : ℕ) → number i ≡ number j → i ≡ j) → IsHeadOf first.me.0 p
      head inj = record {
        number = number n;
        heard = heard n;
        others = others;
        are = are;
        apart = λ i y e z.
            let t = seated_at number heard (n + 1) (drop (suc n) players) i y e in
            let same : number (n + 1 + i) ≡ number n =
            sym (number_same (number (n + 1 + i)) (heard (n + 1 + i)) t.0) ∙ ap (λ (x : Numbered). x.number) t.2 ∙ z in
            let one = inj (n + 1 + i) n same in omega arith;
      }

      module _ (after token : Seat (Slot L D) (View L D)) (is_first : IsFirst table after)
          (left : after.me.0 ≡ cut_left first.me.0) (right : token.me.0 ≡ cut_right first.me.0)
          (mine : HasPlayer table token p) (one : HasOneCleaner (views players))
          (part : PartIsKept n (views players) first) where
        token_seats : token.me.0.seats ≡ numbered_as (number n) (heard n) p ∷ []
        token_seats = ap (λ (v : View L D). v.seats) right ∙ ap first_numbered are

        heads : heads_cleaner first.me.0.seats ≡ is_cleaner (seen p)
        heads = ap heads_cleaner are ∙ ap is_cleaner (actor_same (number n) (heard n) p)

        p_view : get_elem? (views players) n ≡ maybe.some (seen p)
        p_view = view_there players n p p_at

        keeps_part : IsCleaner (seen p) → HasPart token.me.0
        keeps_part is = ⊎_elim
            (λ q. (
              q.0,
              ap (λ (v : View L D). v.data_part) right
                  ∙ ap (λ (b : Bool). cond b first.me.0.data_part None) (heads ∙ cleaner_true (seen p) is) ∙ q.1,
            ))
            (λ t. let same : t.0 ≡ n = one t.0 n t.1 (seen p) t.3 p_view t.4 is in let l = t.2 in absurd (omega arith)) part

        cut_seat : IsPlayerSeat table token p
        cut_seat = seat_from table token p mine
            (λ d has. A.is_first.home d (cut_part_is (heads_cleaner first.me.0.seats) first.me.0.data_part d
            (sym (ap (λ (v : View L D). v.data_part) right) ∙ has)))
            keeps_part

        long : length (seats ++ token ∷ []) ≡ n + 1
        long = length-append seats (token ∷ [])

        longer : suc n ≡ length (seats ++ token ∷ [])
        longer = let m = long in omega arith

        below : n < length players
        below = past players n p p_at
          where
            past : {A : Type 0} (l : List A) (i : ℕ) (a : A) → get_elem? l i ≡ maybe.some a → i < length l
            past [] i a e = absurd (maybe.some-ne-none a (sym e))
            past (x ∷ xs) zero a e = omega arith
            past (x ∷ xs) (suc i) a e = let r = past xs i a e in omega arith

        pub cut_next : AreHandedOut table number heard players after (seats ++ token ∷ [])
        cut_next = record {
          is_first = is_first;
          few = (let m = long in let b = below in omega arith);
          others = ap (λ (v : View L D). v.seats) left ∙ ap rest_numbered are
              ∙ ap (λ (m : ℕ). seated number heard m (drop (suc n) players)) (sym long)
              ∙ ap (λ (m : ℕ). seated number heard (length (seats ++ token ∷ [])) (drop m players)) longer;
          each = λ i seat q e at. ⊎_elim
              (λ t. A.each i seat q t.1 at)
              (λ t. let same : ◌≡◌ {A = Player R} p q = maybe.some-injective p q (sym p_at ∙ ap (get_elem? players) (sym t.0)
              ∙ at) in
              subst (λ (s : Seat (Slot L D) (View L D)). IsPlayerSeat table s q × (number_of s.me.0 ≡ number i)
              × ◌≡◌ {A = Heard} (heard_of s.me.0) (heard i)) t.1 (
                subst (λ (z : Player R). IsPlayerSeat table token z) same cut_seat,
                ap number_in token_seats ∙ number_same (number n) (heard n) p ∙ ap number (sym t.0),
                ap heard_in token_seats ∙ heard_same (number n) (heard n) p ∙ ap heard (sym t.0),
              ))
              (at_end seats token seat i e);
        }

        pub cut_part : PartIsKept (length (seats ++ token ∷ [])) (views players) after
        cut_part = ⊎_elim
            (λ c. inr (n, seen p, (let m = long in omega arith), p_view, c.0))
            (λ none. ⊎_elim
            (λ q. inl (
              q.0,
              ap (λ (v : View L D). v.data_part) left
                  ∙ ap (λ (b : Bool). cond b None first.me.0.data_part) (heads ∙ none) ∙ q.1,
            ))
            (λ t. inr (t.0, t.1, (let m = long in let l = t.2 in omega arith), t.3, t.4)) part)
            (told_cleaner (seen p))

    -- THE LAST SEAT IS TAKEN IN
    module _ (before : List (Seat (Slot L D) (View L D))) (seat : Seat (Slot L D) (View L D)) (is : seats ≡ before ++ seat ∷ [])
        (rest : AllAtRest players) where
      count : length seats ≡ length before + 1
      count = ap length is ∙ length-append before (seat ∷ [])

      last_less : length before < length players
      last_less = let n = count in let l = A.few in omega arith

      abbrev last : Player R
      last = (there players (length before) last_less).0

      last_at : get_elem? players (length before) ≡ maybe.some last
      last_at = (there players (length before) last_less).1

      seat_at : get_elem? seats (length before) ≡ maybe.some seat
      seat_at = ap (λ (l : List (Seat (Slot L D) (View L D))). get_elem? l (length before)) is
          ∙ at_last before seat (length before) refl

      own_seat : IsPlayerSeat table seat last
      own_seat = (A.each (length before) seat last seat_at last_at).0

      view_is : seat.me.0.seats ≡ numbered_as (number (length before)) (heard (length before)) last ∷ []
      view_is =
          let e = A.each (length before) seat last seat_at last_at in
          seats_of table seat last (number (length before)) (heard (length before)) own_seat e.1 e.2

      free : IsAtRest last
      free = rest (length before) last last_at

      pub may_take_in : MayTakeIn table first seat
      may_take_in =
          let t = seat_table table seat last own_seat in
          let x : Numbered = numbered_as (number (length before)) (heard (length before)) last in
          record {
            of = t.0;
            words = t.1;
            none = seat_bare table seat last own_seat free;
            some = (x, ap (λ (l : List Numbered). get_elem? l 0) view_is);
            rest = λ i y e. subst (λ (z : Numbered). HoldsNothing z.actor × HasNoWork z.errand)
                (in_one x i y (sym (ap (λ (l : List Numbered). get_elem? l i) view_is) ∙ e))
                (at_rest (number (length before)) (heard (length before)) last free);
            home = t.2;
          }
        where
          in_one : (x : Numbered) (i : ℕ) (y : Numbered) → get_elem? (x ∷ []) i ≡ maybe.some y → ◌≡◌ {A = Numbered} x y
          in_one x zero y e = maybe.some-injective x y e
          in_one x (suc i) y e = absurd (maybe.some-ne-none y (sym e))

      module _ (after : Seat (Slot L D) (View L D)) (is_first : IsFirst table after)
          (both : after.me.0 ≡ taken_in first.me.0 seat.me.0) where
        shorter : length seats ≡ suc (length before)
        shorter = let n = count in omega arith

        joined : after.me.0.seats ≡ seated number heard (length before) (drop (length before) players)
        joined = ap (λ (v : View L D). v.seats) both ∙ ap (λ (l : List Numbered). l ++ first.me.0.seats) view_is
            ∙ ap (λ (l : List Numbered). numbered_as (number (length before)) (heard (length before)) last ∷ l)
            (A.others ∙ ap (λ (n : ℕ). seated number heard n (drop (length seats) players)) count
            ∙ ap (λ (n : ℕ). seated number heard (length before + 1) (drop n players)) shorter)
            ∙ sym (ap (seated number heard (length before)) (drop_at players (length before) last last_at))

        pub taken_before : AreHandedOut table number heard players after before
        taken_before = record {
          is_first = is_first;
          few = (let l = last_less in omega arith);
          others = joined;
          each = λ i s q e at. A.each i s q (ap (λ (l : List (Seat (Slot L D) (View L D))). get_elem? l i) is
              ∙ at_longer before (seat ∷ []) i s e) at;
        }

        part_of : (o q : Option (Keeping D)) (d : Keeping D) → o ≡ Some d → first_some o q ≡ Some d
        part_of o q d e = ap (λ (z : Option (Keeping D)). first_some z q) e

        pub taken_part : HasPart first.me.0 → HasPart after.me.0
        taken_part q = (
          q.0,
          ap (λ (v : View L D). v.data_part) both
              ∙ part_of first.me.0.data_part seat.me.0.data_part (record { part = q.0; out = false }) q.1,
        )

        either_part : (o : Option (Keeping D)) → first.me.0.data_part ≡ o → HasPart seat.me.0 → HasPart after.me.0
        either_part None e q = (
          q.0,
          ap (λ (v : View L D). v.data_part) both
              ∙ ap (λ (z : Option (Keeping D)). first_some z seat.me.0.data_part) e ∙ q.1,
        )
        either_part (Some d) e q = taken_part (
          d.part,
          e
              ∙ ap (λ (b : Bool). Some (record { part = d.part; out = b })) (A.is_first.home d e),
        )

        pub taken_cleaner : ((i : ℕ) (a : model.Actor) → length seats ≤ i → get_elem? (views players) i ≡ maybe.some a
            → IsCleaner a → HasPart first.me.0)
            → (i : ℕ) (a : model.Actor) → length before ≤ i → get_elem? (views players) i ≡ maybe.some a → IsCleaner a
            → HasPart after.me.0
        taken_cleaner others i a l at is_one = elim (ℕ_discrete i (length before)) [
          | yes here ↦ either_part first.me.0.data_part refl
              (seat_cleaner table seat last own_seat (subst IsCleaner
              (maybe.some-injective a (seen last) (sym at ∙ ap (get_elem? (views players)) here
              ∙ view_there players (length before) last last_at)) is_one))
          | no far ↦ taken_part (others i a (let n = count in omega arith) at is_one)
        ]

    -- where nothing was handed on, each seat has heard nothing
    pub none_heard_yet : ((n : ℕ) → ◌≡◌ {A = Heard} (heard n) nothing)
        → (i : ℕ) (seat : Seat (Slot L D) (View L D)) → get_elem? seats i ≡ maybe.some seat
        → ◌≡◌ {A = Heard} (heard_of seat.me.0) nothing
    none_heard_yet none i seat at =
        let few = A.few in
        let p = there players i (let l = below seats i seat at in omega arith) in
        (A.each i seat p.0 at p.1).2 ∙ none i
      where
        below : {A : Type 0} (l : List A) (i : ℕ) (a : A) → get_elem? l i ≡ maybe.some a → i < length l
        below [] i a e = absurd (maybe.some-ne-none a (sym e))
        below (x ∷ xs) zero a e = omega arith
        below (x ∷ xs) (suc i) a e = let r = below xs i a e in omega arith

    -- the first seat has all players where no seat is left
    pub all_back : seats ≡ [] → first.me.0.seats ≡ seated number heard 0 players
    all_back none = A.others
        ∙ ap (λ (l : List (Seat (Slot L D) (View L D))). seated number heard (length l) (drop (length l) players)) none

  -- where nobody is the cleaner, the first seat has kept the data part
  pub one_part : (players : List (Player R)) (first : Seat (Slot L D) (View L D))
      → PartIsKept (length players) (views players) first
      → ((i : ℕ) (a : model.Actor) → get_elem? (views players) i ≡ maybe.some a → IsCleaner a → ⊥) → HasPart first.me.0
  one_part players first part none = ⊎_elim (λ p. p) (λ t. absurd (none t.0 t.1 t.3 t.4)) part

  -- nobody has a seat yet, and each has
  module _ (table : TableId) (number : ℕ → ℕ) (heard : ℕ → Heard) (players : List (Player R))
      (first : Seat (Slot L D) (View L D)) (seats : List (Seat (Slot L D) (View L D))) where
    pub all_in_first : IsFirst table first → first.me.0.seats ≡ seated number heard 0 players → seats ≡ []
        → AreHandedOut table number heard players first seats
    all_in_first is_first all none = subst (AreHandedOut table number heard players first) (sym none) (record {
      is_first = is_first;
      few = omega arith;
      others = all;
      each = λ i seat p e at. absurd (maybe.some-ne-none seat (sym e));
    })

    pub none_in_first : AreHandedOut table number heard players first seats → length seats ≡ length players
        → first.me.0.seats ≡ []
    none_in_first A all = A.others
        ∙ ap (seated number heard (length seats)) (ap (λ (n : ℕ). drop n players) all ∙ nothing_left players)
      where
        nothing_left : {A : Type 0} (l : List A) → drop (length l) l ≡ []
        nothing_left [] = refl
        nothing_left (x ∷ xs) = nothing_left xs

-- A USER'S SEAT, CUT OFF
module _ {L D R : Type 0} (table : TableId) (first : Seat (Slot L D) (View L D)) (F : IsFirst table first) (o : OwnUser)
    (p : Player R) (p_is : p ≡ player.Own o) (H : IsHeadOf first.me.0 p) (token : Seat (Slot L D) (View L D))
    (of : token.table_id ≡ table) (me_is : token.me ≡ (cut_right first.me.0, [])) where
  abbrev x : Numbered
  x = record { number = H.number; actor = model.User o.user; heard = H.heard; errand = Some (errand_of o) }

  own_head : first.me.0.seats ≡ x ∷ H.others
  own_head = H.are ∙ ap (λ (q : Player R). numbered_as H.number H.heard q ∷ H.others) p_is

  one : token.me.0.seats ≡ x ∷ []
  one = ap (λ (m : Me (Slot L D) (View L D)). m.0.seats) me_is ∙ ap first_numbered own_head

  its : IsOwn x o
  its = record { state = refl; errand = refl }

  pub own_look_ok : (log_seen : L → Seen) (log_gives : L → Call → L → Type 0) (data_seen : D → Seen)
      (data_gives : D → Call → D → Type 0) (about : About L D)
      → (token.table_id ≡ table) × (0 < table.words)
      × Allows (Ruled log_seen log_gives data_seen data_gives about) table.slots token.id token.me 0 (λ n. n)
      (own_looked log_seen data_seen token.me)
  own_look_ok log_seen log_gives data_seen data_gives about = (
    of,
    (let w = F.words in omega arith),
    own_look log_seen log_gives data_seen data_gives about table.slots token.id token.me x one o its 0,
  )

  pub own_cut : (log_seen : L → Seen) (data_seen : D → Seen) (after : Seat (Slot L D) (View L D))
      → after.table_id ≡ token.table_id → (n : ℕ) → own_looked log_seen data_seen token.me n after.me
      → HasPlayer table after p
  own_cut log_seen data_seen after same n told =
      let t = told.1 x o one its in
      let rest = F.rest 0 x (ap (λ (l : List Numbered). get_elem? l 0) own_head) in
      let bare : token.me.1 ≡ [] = ap (λ (m : Me (Slot L D) (View L D)). m.1) me_is in
      let carries : CarriesWork (has_work o.errand) (model.User o.user) token.me =
      subst (λ (b : Bool). CarriesWork b (model.User o.user) token.me) (sym rest.1)
      (subst (λ (h : Option ℕ). Carries h token.me) (sym rest.0.no_slot) bare) in
      subst (HasPlayer table after) (sym p_is)
      (subst (λ (m : Me (Slot L D) (View L D)). OwnMine table (record {
        marker = after.marker;
        table_id = after.table_id;
        id = after.id;
        me = m;
      }) o) (sym told.0) (record {
        of = same ∙ of;
        slots = F.slots;
        words = F.words ∙ ap word_count (sym (ap (λ (m : Me (Slot L D) (View L D)). m.0.layout) me_is));
        who = x;
        one = one;
        own = its;
        carries = carries;
        stands = t.0;
        free = λ checks. rest.0;
        may = t.1;
      }))

  pub own_right : (log_seen : L → Seen) (data_seen : D → Seen) (after : Seat (Slot L D) (View L D)) (n : ℕ)
      → own_looked log_seen data_seen token.me n after.me → after.me.0 ≡ cut_right first.me.0
  own_right log_seen data_seen after n told =
      ap (λ (m : Me (Slot L D) (View L D)). m.0) told.0 ∙ ap (λ (m : Me (Slot L D) (View L D)). m.0) me_is
