-- What a turn leaves of the page half.
use Rattle.std.proofs.Common.{Bool, cond, eqb, false, true, List, ap, arith, refl, set, subst, suc, sym, ℕ, ◌≡◌, ◌≤◌}
use lib.ListN.{get_elem?}
use mathlib.Core.Option.{some}
use Rattle.model_core.proofs.Lists.{set_again}
use Rattle.model_core.proofs.Lsns.{lsn_le}
use Rattle.model_core.specs.{Actor, Entry, Listed, lsn, SharedWords, UserState, DataSide, LogSide, Setup}
use Rattle.model_logcore.specs.{LogGhost, UserFits, LogHalf}
use Rattle.model_pagecore.proofs.PageHistory.{laid}
use Rattle.model_pagecore.proofs.PageFrame.{pages_same, user_page_fits_later}
use Rattle.model_pagecore.proofs.PageStep.{grown}
use Rattle.model_pagecore.specs.{Grows, Laid, PageFits, PageGhost, UserPageFits}
use Rattle.model_pagecore.specs.PageHalf.{PageHalf}
use Rattle.model_running.specs.Watermarks.{BothHalves}
use Rattle.model_core.specs.States as actor

module _ (D : LogSide) (E : DataSide) (c : Setup) (m : SharedWords) (h : PageGhost) (actors : List Actor) (seat : ℕ) where
  -- the page half after a turn, in which the parts came to q and e
  abbrev pub PageDone : D.Part → E.Part → SharedWords → List Entry → (ℕ → List Listed) → Actor → Type 0
  PageDone q e m' l ls' b = (k : PageGhost) × PageHalf E c m' l (D.stable q) k ls' e (set actors seat b) × Grows m h k

  -- neither part has changed
  pub as_is : (p q : D.Part) (d e : E.Part) {m' : SharedWords} {l : List Entry} {ls' : ℕ → List Listed} (b : Actor) → ◌≡◌ {A = D.Part} q p → ◌≡◌ {A = E.Part} e d → PageDone p d m' l ls' b → PageDone q e m' l ls' b
  as_is p q d e {m'} {l} {ls'} b s v r = subst (λ (y : D.Part). PageDone y e m' l ls' b) (sym s) (subst (λ (y : E.Part). PageDone p y m' l ls' b) (sym v) r)

pub laid_of : {D : LogSide} {E : DataSide} {c : Setup} {m : SharedWords} {g : LogGhost} {h : PageGhost} {ls : ℕ → List Listed} {p : D.Part} {d : E.Part} {actors : List Actor} → BothHalves D E c m g h ls p d actors → Laid (lsn c.base) (lsn m.sn) g.log
laid_of {c = c} {m = m} {g = g} both = laid c.base m.sn g.log both.logged.global.tiled.tiles

pub mates : {D : LogSide} {E : DataSide} {c : Setup} {m : SharedWords} {g : LogGhost} {h : PageGhost} {ls : ℕ → List Listed} {p : D.Part} {d : E.Part} {actors : List Actor} → BothHalves D E c m g h ls p d actors → (j : ℕ) (u : UserState) → get_elem? actors j ≡ some (actor.User u) → g.seat_of u.user ≡ j
mates {D} {c = c} {m = m} {g = g} {p = p} both j u at = let f : UserFits D c m g p j u = both.logged.each j (actor.User u) at in f.own_seat

pub unmoved : {m : SharedWords} {h : PageGhost} → Grows m h h
unmoved = record { given = omega arith; closed = λ x z. z; holder = λ _ _. refl }

-- a list that is left as it was leaves the lists so
one_kept : (b : Bool) (l : List Listed) → ◌≡◌ {A = List Listed} l (cond b l l)
one_kept true l = refl
one_kept false l = refl

pub lists_kept : (ls : ℕ → List Listed) (n : ℕ) → ◌≡◌ {A = ℕ → List Listed} ls (λ i. cond (eqb i n) (ls i) (ls i))
lists_kept ls n j i = one_kept (eqb i n) (ls i) j

-- the actor stays as it is
pub rested : {D : LogSide} {E : DataSide} {c : Setup} {m : SharedWords} {g : LogGhost} {h : PageGhost} {ls : ℕ → List Listed} {p : D.Part} {d : E.Part} {actors : List Actor} (both : BothHalves D E c m g h ls p d actors) (seat : ℕ) (a : Actor) → get_elem? actors seat ≡ some a → PageDone D E c m h actors seat p d m g.log ls a
rested {D} {E} {c} {m = m} {g = g} {h = h} {ls = ls} {p = p} {d = d} {actors = actors} both seat a at = (h, subst (λ (z : List Actor). PageHalf E c m g.log (D.stable p) h ls d z) (sym (set_again actors seat a at)) both.paged, unmoved)

-- words that the page half doesn't read change
pub away : {D : LogSide} {E : DataSide} {c : Setup} {m : SharedWords} {g : LogGhost} {h : PageGhost} {ls : ℕ → List Listed} {p : D.Part} {d : E.Part} {actors : List Actor} (both : BothHalves D E c m g h ls p d actors) (seat : ℕ) (m' : SharedWords) (b : Actor) → PageFits E c m' g.log h ls d seat b → m'.page_words ≡ m.page_words → m'.lists ≡ m.lists → m'.clinks ≡ m.clinks → m'.ctail ≡ m.ctail → m'.cheld ≡ m.cheld → m.sn ≡ m'.sn → m.flushed ≡ m'.flushed → PageHalf E c m' g.log (D.stable p) h ls d (set actors seat b)
away {D} {E} {c} {m = m} {g = g} {h = h} {ls = ls} {p = p} {d = d} {actors = actors} both seat m' b f e1 e2 e3 e4 e5 e6 e7 = let z = both.paged.paged.flushed in let y = both.paged.paged.stable_top in
    grown E c g.seat_of m g.log (D.stable p) h ls d actors seat both.paged (mates both) m' (D.stable p) b e1 e2 e3 e4 e5 e6 (omega arith) (omega arith) (omega arith) (subst (λ (k : ℕ). D.stable p ≤ lsn k) e6 y) f

-- the same where a user moves
pub away_user : {D : LogSide} {E : DataSide} {c : Setup} {m : SharedWords} {g : LogGhost} {h : PageGhost} {ls : ℕ → List Listed} {p : D.Part} {d : E.Part} {actors : List Actor} (both : BothHalves D E c m g h ls p d actors) (seat : ℕ) (m' : SharedWords) (w : UserState) → g.seat_of w.user ≡ seat → UserPageFits E c m g.log h ls d seat w → m'.page_words ≡ m.page_words → m'.lists ≡ m.lists → m'.clinks ≡ m.clinks → m'.ctail ≡ m.ctail → m'.cheld ≡ m.cheld → m.sn ≡ m'.sn → m.flushed ≡ m'.flushed → PageHalf E c m' g.log (D.stable p) h ls d (set actors seat (actor.User w))
away_user {D} {E} {c} {m = m} {g = g} {h = h} {ls = ls} {d = d} both seat m' w own_seat f e1 e2 e3 e4 e5 e6 e7 = away both seat m' (actor.User w) (user_page_fits_later E c g.seat_of m m' g.log g.log h h ls ls d d (suc seat) seat (λ z. omega arith)
    (pages_same e1 e2 e4 e5 (omega arith)) w own_seat f) e1 e2 e3 e4 e5 e6 e7

-- the log part changes, and with it nothing that the page half reads but the marks
pub pass : {D : LogSide} {E : DataSide} {c : Setup} {m : SharedWords} {g : LogGhost} {h : PageGhost} {ls : ℕ → List Listed} {p : D.Part} {d : E.Part} {actors : List Actor} (both : BothHalves D E c m g h ls p d actors) (seat : ℕ) {q : D.Part} {e : E.Part} (m' : SharedWords) (b : Actor) (k : LogGhost) → LogHalf D c m' k q (set actors seat b) → D.stable p ≤ D.stable q → m'.page_words ≡ m.page_words → m'.lists ≡ m.lists → m'.clinks ≡ m.clinks → m'.ctail ≡ m.ctail → m'.cheld ≡ m.cheld → m.sn ≡ m'.sn → m.flushed ≤ m'.flushed
    → PageFits E c m' g.log h ls d seat b → ◌≡◌ {A = E.Part} e d → PageDone D E c m h actors seat q e m' g.log ls b
pass {D} {E} {c} {m = m} {g = g} {h = h} {ls = ls} {p = p} {d = d} {actors = actors} both seat {q} m' b k after ge e1 e2 e3 e4 e5 e6 fl f v =
    let P = after.global.part in let O = after.global.order in
    let z1 = P.stable_written in let z2 = P.written_wtail in let z3 = O.wtail_is in let z4 = lsn_le k.wtail m'.sn (let a = O.wtail_tail in let b = O.tail_sn in omega arith) in
    subst (λ (y : E.Part). PageDone D E c m h actors seat q y m' g.log ls b) (sym v)
    (h, grown E c g.seat_of m g.log (D.stable p) h ls d actors seat both.paged (mates both) m' (D.stable q) b e1 e2 e3 e4 e5 e6 fl ge P.flushed_stable (omega arith) f, unmoved)

pub still_part : (D : LogSide) {p q : D.Part} → ◌≡◌ {A = D.Part} q p → D.stable p ≤ D.stable q
still_part D {p} {q} s = let z : D.stable q ≡ D.stable p = ap D.stable s in omega arith
