-- Each turn keeps what the users' states say of the closed groups.
use Rattle.std.proofs.Common.{Bool, List, [], ap, arith, cond, false, get_or-set_same, inl, inr, refl, set, subst, sym, true, ℕ, ⊎_elim, ◌%◌, ◌++◌, ◌-◌, ◌∙◌, ◌∷◌, ◌≡◌, ◌≢◌, ◌⊎◌}
use Rattle.std.specs.Prelude.{slice_index, slice_set}
use lib.ListN.{get_elem?}
use mathlib.Core.Option.{some}
use native.Mathlib.Decide.{dec_le}
use Rattle.model_core.proofs.Groups.{tiles_at}
use Rattle.model_core.proofs.Lists.{at_set, at_snoc}
use Rattle.model_core.proofs.Lsns.{lsn_less, lsn_same, ring_same}
use Rattle.model_core.specs.{Actor, checked_of, entry, Entry, group_end, heard, line, Listed, log_left, lsn, next, old_of, phase_log, shared_left, SharedWords, took, user_op, user_program, user_took, UserState, DataSide, LogSide, Setup, IsSameActor}
use Rattle.model_core.specs.declared.ops.Answer.{Answer}
use Rattle.model_core.specs.declared.steps.UserStep.{UserStep}
use Rattle.model_core.specs.declared.limits.TheConstants.{CLOSED_LINKS}
use Rattle.model_logcore.specs.{LogGhost, UserAt, UserFits}
use Rattle.model_pagecore.specs.{ClosedLinks, Grows, PageGhost, UserPageFits, UserPagesAt}
use Rattle.model_core.proofs.Later.{took_later, was_user}
use Rattle.model_running.proofs.UserCloses.{Needs, closes, closes_checked}
use Rattle.model_running.specs.Watermarks.{BothHalves, HandIsClosed, UserClosed, UsersClosed}
use Rattle.model_core.specs.States as actor
use Rattle.model_core.specs.declared.ops.Op.TheVariants as op
use Rattle.model_core.specs.declared.steps.UserStep.TheVariants as user_step
use Rattle.model_core.specs.declared.words.Word.TheVariants as word

-- the user in a seat, else the other one
abbrev user_in : UserState → Actor → UserState
user_in other (actor.User u) = u
user_in other _ = other

module _ (D : LogSide) (E : DataSide) (c : Setup) (m : SharedWords) (g : LogGhost) (h : PageGhost) (ls : ℕ → List Listed) (p : D.Part) (d : E.Part) (actors : List Actor) (seat : ℕ) (both : BothHalves D E c m g h ls p d actors) (k : PageGhost) (grows : Grows m h k) where
  -- the links of the recent-closed buffer after an Op
  abbrev LinksAfter : List Entry → SharedWords → Type 0
  LinksAfter log m' = ClosedLinks log k.closed m'.ctail m'.cheld k.tail (lsn m'.sn) m'.clinks

  still : (v : UserState) (f : UserStep) → HandIsClosed h.closed v f → HandIsClosed k.closed v f
  still v user_step.ReleaseLatch hand = grows.closed v.start hand
  still v user_step.AwaitMark hand = λ some_page. grows.closed v.start (hand some_page)
  still v _ hand = tt

  module _ (u : UserState) (at : get_elem? actors seat ≡ some (actor.User u)) where
    mine : UserFits D c m g p seat u
    mine = both.logged.each seat (actor.User u) at

    pages : UserPageFits E c m g.log h ls d seat u
    pages = both.paged.each seat (actor.User u) at

    before : UserClosed g.log h.closed u
    before = both.closed seat u at

    -- its link is stored, so its group is closed: the link in that slot is its own
    linked : UserAt D c m g p seat u user_step.StoreClosedLink → UserPagesAt E c m g.log h ls d seat u user_step.StoreClosedLink → LinksAfter g.log (record m { clinks = slice_set m.clinks (lsn u.start % CLOSED_LINKS) (lsn (group_end u) - lsn u.start) }) → k.closed u.start ≡ true
    linked l o C = elim (dec_le k.tail (lsn u.start)) [
      | no below ↦ C.below l.2.0 (entry u.user u.k u.start (line u)) l.2.1 (omega arith)
      | yes from ↦ (
          let i : ℕ = lsn u.start % CLOSED_LINKS in
          let n : ℕ = lsn (group_end u) - lsn u.start in
          let lies = (tiles_at g.log c.base m.sn l.2.0 (entry u.user u.k u.start (line u)) both.logged.global.tiled.tiles l.2.1).2 in
          let some_bytes = lsn_less u.start (group_end u) (omega arith) in
          let value : slice_index (slice_set m.clinks i n) i ≡ n = get_or-set_same m.clinks i n 0 (let z = both.logged.sized.clinks in omega arith) in
          let own = C.links_are i (omega arith) (omega arith) in
          let since = own.since in let order = C.order in let near = o.1 in
          let window = C.window own.at own.group own.is own.done in
          let same : lsn u.start ≡ lsn own.group.start = ring_same (lsn u.start) (lsn own.group.start) m.ctail CLOSED_LINKS (omega arith) (omega arith) near window own.slot in
          subst (λ (x : ℕ). k.closed x ≡ true) (sym (lsn_same u.start own.group.start same)) own.done)
    ]

    closing : (b : Bool) (f : UserStep) → UserAt D c m g p seat u f → UserPagesAt E c m g.log h ls d seat u f → LinksAfter (cond b g.log (phase_log g.log m.sn u f)) (shared_left m (cond b (op.Load word.Failed) (user_op u f))) → b ≡ false → f ≡ user_step.StoreClosedLink → k.closed u.start ≡ true
    closing true f l o C is step = absurd (cc)
    closing false user_step.StoreClosedLink l o C is step = linked l o C
    closing false f l o C is step = absurd (cc)

    needs : (f : UserStep) → UserAt D c m g p seat u f → (f ≡ user_step.StoreClosedLink → k.closed u.start ≡ true) → Needs c m.sn g.log g.place both.logged.global.tiled h.closed k.closed grows.closed u before f
    needs user_step.StoreLink l cl = (l.2.at, l.2.is)
    needs user_step.StoreClosedLink l cl = cl refl
    needs user_step.ReleaseLatch l cl = (l.2.0, l.2.1)
    needs user_step.AwaitMark l cl = (l.2.0, l.2.1)
    needs _ l cl = tt

    stays : (n : ℕ) (f : UserStep) → u.step ≡ f → (f ≡ user_step.Reserve → ⊥) → UserAt D c m g p seat u f → (f ≡ user_step.StoreClosedLink → k.closed u.start ≡ true) → UserClosed g.log k.closed (user_took u n f)
    stays n f is not l cl = closes c m.sn g.log g.place both.logged.global.tiled h.closed k.closed grows.closed u before n f is not (subst (HandIsClosed h.closed u) is before.in_hand) (needs f l cl)

    reserved : (n : ℕ) → UserClosed (g.log ++ entry u.user u.k m.sn (line u) ∷ []) k.closed (user_took u n user_step.Reserve)
    reserved n = record {
      answered = λ i e is own below some_page. ⊎_elim (λ z. grows.closed e.start (before.answered i e z own below some_page))
          (λ z. let same : u.k ≡ e.k = ap (λ (x : Entry). x.k) z in absurd (omega arith)) (at_snoc g.log (entry u.user u.k m.sn (line u)) e i is);
      in_hand = tt;
    }

    stepped : (n : ℕ) (f : UserStep) → u.step ≡ f → UserAt D c m g p seat u f → (f ≡ user_step.StoreClosedLink → k.closed u.start ≡ true) → UserClosed (phase_log g.log m.sn u f) k.closed (user_took u n f)
    stepped n user_step.Reserve is l cl = reserved n
    stepped n f is l cl = stays n f is (λ z. absurd (cc)) l cl

    own_by : (b : Bool) (r : Answer) (v : UserState) → LinksAfter (cond b g.log (phase_log g.log m.sn u u.step)) (shared_left m (cond b (op.Load word.Failed) (user_op u u.step)))
        → ◌≡◌ {A = Actor} (cond b (actor.User (checked_of user_program u (old_of r))) (actor.User (user_took u (heard r) u.step))) (actor.User v) → UserClosed (cond b g.log (phase_log g.log m.sn u u.step)) k.closed v
    own_by true r v C e = subst (UserClosed g.log k.closed) (ap (user_in v) e) (closes_checked c m.sn g.log g.place both.logged.global.tiled h.closed k.closed grows.closed u before (old_of r))
    own_by false r v C e = subst (UserClosed (phase_log g.log m.sn u u.step) k.closed) (ap (user_in v) e)
        (stepped (heard r) u.step refl mine.step (λ step. closing false u.step mine.step pages.step C refl step))

    -- its reservation adds a group of its own
    added : (b : Bool) (f : UserStep) (i : ℕ) (e : Entry) → get_elem? (cond b g.log (phase_log g.log m.sn u f)) i ≡ some e → (get_elem? g.log i ≡ some e) ⊎ (u.user ≡ e.user)
    added true f i e is = inl is
    added false user_step.Reserve i e is = ⊎_elim (λ z. inl z) (λ z. inr (ap (λ (x : Entry). x.user) z)) (at_snoc g.log (entry u.user u.k m.sn (line u)) e i is)
    added false _ i e is = inl is

  -- another user's groups are as before
  other : (log : List Entry) (j : ℕ) (v : UserState) → get_elem? actors j ≡ some (actor.User v) → ((i : ℕ) (e : Entry) → get_elem? log i ≡ some e → e.user ≡ v.user → get_elem? g.log i ≡ some e) → UserClosed log k.closed v
  other log j v at old = let before = both.closed j v at in record {
    answered = λ i e is own below some_page. grows.closed e.start (before.answered i e (old i e is own) own below some_page);
    in_hand = still v v.step before.in_hand;
  }

  another : (a : Actor) → get_elem? actors seat ≡ some a → (j : ℕ) (v : UserState) → j ≢ seat → get_elem? actors j ≡ some (actor.User v) → UserClosed (log_left g.log m.sn a) k.closed v
  another (actor.User u) at j v not there = other (log_left g.log m.sn (actor.User u)) j v there
      (λ i e is own. ⊎_elim (λ z. z)
      (λ mine.
      let f : UserFits D c m g p seat u = both.logged.each seat (actor.User u) at in
      let o : UserFits D c m g p j v = both.logged.each j (actor.User v) there in
      absurd (not (sym o.own_seat ∙ ap g.seat_of (sym own ∙ sym mine) ∙ f.own_seat)))
      (added u at u.checks u.step i e is))
  another _ at j v not there = other g.log j v there (λ i e is own. is)

  own : (a : Actor) → get_elem? actors seat ≡ some a → (r : Answer) → LinksAfter (log_left g.log m.sn a) (shared_left m (next a)) → (v : UserState) → ◌≡◌ {A = Actor} (took a r) (actor.User v) → UserClosed (log_left g.log m.sn a) k.closed v
  own a at r C v e =
      let w = was_user a v (subst (IsSameActor a) e (took_later a r)) in
      subst (λ (z : Actor). get_elem? actors seat ≡ some z → LinksAfter (log_left g.log m.sn z) (shared_left m (next z)) → ◌≡◌ {A = Actor} (took z r) (actor.User v) → UserClosed (log_left g.log m.sn z) k.closed v)
      (sym w.1) (λ at_user C_user e_user. own_by w.0 at_user w.0.checks r v C_user e_user) at C e

  pub users_closed : (a : Actor) → get_elem? actors seat ≡ some a → (r : Answer) → LinksAfter (log_left g.log m.sn a) (shared_left m (next a)) → UsersClosed (log_left g.log m.sn a) k.closed (set actors seat (took a r))
  users_closed a at r C j v there = ⊎_elim (λ z. own a at r C v z.1) (λ z. another a at j v z.0 z.1) (at_set actors seat j (took a r) (actor.User v) there)
