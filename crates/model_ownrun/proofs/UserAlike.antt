-- What a user has done and holds is the same at the steps between which its errand leads.
use Rattle.std.proofs.Common.{subst, Bool, List, ap, arith, false, inr, refl, ℕ, ⊎_elim, ◌≡◌, ◌⊎◌}
use lib.ListN.{get_elem?}
use mathlib.Core.Option.{some}
use Rattle.model_core.specs.{Actor, Listed, SharedWords, UserState, user_holds_tail, DataSide, LogSide, Setup}
use Rattle.model_core.specs.declared.steps.UserStep.{UserStep}
use Rattle.model_core.specs.declared.words.LinkBuffer.{LinkBuffer}
use Rattle.model_core.specs.declared.steps.UserStep.TheVariants as user_step
use Rattle.model_core.specs.declared.words.LinkBuffer.TheVariants as link_buffer
use Rattle.model_core.specs.States as actor
use Rattle.model_logcore.specs.LogFacts.{LogGhost}
use Rattle.model_logcore.specs.{UserAt, UserFits}
use Rattle.model_own.specs.{begins_again, loads_again, MayHelpAt}
use Rattle.model_ownrun.proofs.Restated.{IsAlike}
use Rattle.model_pagecore.specs.{PageGhost, UserHasLatch}
use Rattle.model_pagecore.specs.PageHalf.{UserClosingAt, UserPageFits, UserPagesAt}
use Rattle.model_running.specs.Watermarks.{BothHalves, HandIsClosed, UserClosed}

-- from the one step to the other
abbrev pub Again : UserStep → UserStep → Type 0
Again user_step.LoadCheckpoint user_step.LoadCheckpoint = Unit {0}
Again user_step.LoadWrite user_step.LoadWrite = Unit {0}
Again user_step.LoadWtail user_step.LoadWtail = Unit {0}
Again user_step.LoadWtail user_step.ReloadWtail = Unit {0}
Again user_step.ReloadWtail user_step.LoadWtail = Unit {0}
Again user_step.ReloadWtail user_step.ReloadWtail = Unit {0}
Again user_step.AwaitMark user_step.AwaitMark = Unit {0}
Again _ _ = ⊥

pub again_same : (s : UserStep) → MayHelpAt s → Again s s
again_same user_step.LoadCheckpoint h = tt
again_same user_step.LoadWrite h = tt
again_same user_step.LoadWtail h = tt
again_same user_step.ReloadWtail h = tt
again_same user_step.AwaitMark h = tt
again_same _ h = absurd h

pub again_loads : (s : UserStep) → MayHelpAt s → Again s (loads_again s)
again_loads user_step.LoadCheckpoint h = tt
again_loads user_step.LoadWrite h = tt
again_loads user_step.LoadWtail h = tt
again_loads user_step.ReloadWtail h = tt
again_loads user_step.AwaitMark h = tt
again_loads _ h = absurd h

pub again_begins : (s : UserStep) → MayHelpAt s → Again s (begins_again s)
again_begins user_step.LoadCheckpoint h = tt
again_begins user_step.LoadWrite h = tt
again_begins user_step.LoadWtail h = tt
again_begins user_step.ReloadWtail h = tt
again_begins user_step.AwaitMark h = tt
again_begins _ h = absurd h

no_tail : (b : LinkBuffer) (s t : UserStep) → Again s t → user_holds_tail b t ≡ user_holds_tail b s
no_tail link_buffer.Written user_step.LoadCheckpoint user_step.LoadCheckpoint e = refl
no_tail link_buffer.Written user_step.LoadWrite user_step.LoadWrite e = refl
no_tail link_buffer.Written user_step.LoadWtail user_step.LoadWtail e = refl
no_tail link_buffer.Written user_step.LoadWtail user_step.ReloadWtail e = refl
no_tail link_buffer.Written user_step.ReloadWtail user_step.LoadWtail e = refl
no_tail link_buffer.Written user_step.ReloadWtail user_step.ReloadWtail e = refl
no_tail link_buffer.Written user_step.AwaitMark user_step.AwaitMark e = refl
no_tail link_buffer.Closed user_step.LoadCheckpoint user_step.LoadCheckpoint e = refl
no_tail link_buffer.Closed user_step.LoadWrite user_step.LoadWrite e = refl
no_tail link_buffer.Closed user_step.LoadWtail user_step.LoadWtail e = refl
no_tail link_buffer.Closed user_step.LoadWtail user_step.ReloadWtail e = refl
no_tail link_buffer.Closed user_step.ReloadWtail user_step.LoadWtail e = refl
no_tail link_buffer.Closed user_step.ReloadWtail user_step.ReloadWtail e = refl
no_tail link_buffer.Closed user_step.AwaitMark user_step.AwaitMark e = refl
no_tail _ _ _ e = absurd e

checks_free : (b : LinkBuffer) (s t : UserStep) → Again s t → user_holds_tail b t ≡ false
checks_free link_buffer.Written user_step.LoadCheckpoint user_step.LoadCheckpoint e = refl
checks_free link_buffer.Written user_step.LoadWrite user_step.LoadWrite e = refl
checks_free link_buffer.Written user_step.LoadWtail user_step.LoadWtail e = refl
checks_free link_buffer.Written user_step.LoadWtail user_step.ReloadWtail e = refl
checks_free link_buffer.Written user_step.ReloadWtail user_step.LoadWtail e = refl
checks_free link_buffer.Written user_step.ReloadWtail user_step.ReloadWtail e = refl
checks_free link_buffer.Written user_step.AwaitMark user_step.AwaitMark e = refl
checks_free link_buffer.Closed user_step.LoadCheckpoint user_step.LoadCheckpoint e = refl
checks_free link_buffer.Closed user_step.LoadWrite user_step.LoadWrite e = refl
checks_free link_buffer.Closed user_step.LoadWtail user_step.LoadWtail e = refl
checks_free link_buffer.Closed user_step.LoadWtail user_step.ReloadWtail e = refl
checks_free link_buffer.Closed user_step.ReloadWtail user_step.LoadWtail e = refl
checks_free link_buffer.Closed user_step.ReloadWtail user_step.ReloadWtail e = refl
checks_free link_buffer.Closed user_step.AwaitMark user_step.AwaitMark e = refl
checks_free _ _ _ e = absurd e

module _ (u : UserState) (code : ℕ) (checks : Bool) where
  -- the user at another of these steps
  abbrev pub at_step : UserStep → UserState
  at_step t = record u { code = code; checks = checks; step = t }

  latch : (s t : UserStep) (k : ℕ) → Again s t → (s ≡ user_step.Failed) ⊎ UserHasLatch u s k
      → (t ≡ user_step.Failed) ⊎ UserHasLatch (at_step t) t k
  latch user_step.LoadCheckpoint user_step.LoadCheckpoint k e h = h
  latch user_step.LoadWrite user_step.LoadWrite k e h = h
  latch user_step.LoadWtail user_step.LoadWtail k e h = h
  latch user_step.LoadWtail user_step.ReloadWtail k e h = ⊎_elim (λ z. absurd (cc)) (λ z. inr z) h
  latch user_step.ReloadWtail user_step.LoadWtail k e h = ⊎_elim (λ z. absurd (cc)) (λ z. inr z) h
  latch user_step.ReloadWtail user_step.ReloadWtail k e h = h
  latch user_step.AwaitMark user_step.AwaitMark k e h = h
  latch _ _ k e h = absurd e

  closed_hand : (closed : ℕ → Bool) (s t : UserStep) → Again s t → HandIsClosed closed u s
      → HandIsClosed closed (at_step t) t
  closed_hand closed user_step.LoadCheckpoint user_step.LoadCheckpoint e h = tt
  closed_hand closed user_step.LoadWrite user_step.LoadWrite e h = tt
  closed_hand closed user_step.LoadWtail user_step.LoadWtail e h = tt
  closed_hand closed user_step.LoadWtail user_step.ReloadWtail e h = tt
  closed_hand closed user_step.ReloadWtail user_step.LoadWtail e h = tt
  closed_hand closed user_step.ReloadWtail user_step.ReloadWtail e h = tt
  closed_hand closed user_step.AwaitMark user_step.AwaitMark e h = h
  closed_hand closed _ _ e h = absurd e

  module _ (D : LogSide) (E : DataSide) (c : Setup) (m : SharedWords) (g : LogGhost) (h : PageGhost)
      (ls : ℕ → List Listed) (p : D.Part) (d : E.Part) (seat : ℕ) where
    logged : (s t : UserStep) → Again s t → UserAt D c m g p seat u s → UserAt D c m g p seat (at_step t) t
    logged user_step.LoadCheckpoint user_step.LoadCheckpoint e z = z
    logged user_step.LoadWrite user_step.LoadWrite e z = z
    logged user_step.LoadWtail user_step.LoadWtail e z = z
    logged user_step.LoadWtail user_step.ReloadWtail e z = z
    logged user_step.ReloadWtail user_step.LoadWtail e z = z
    logged user_step.ReloadWtail user_step.ReloadWtail e z = z
    logged user_step.AwaitMark user_step.AwaitMark e z = z
    logged _ _ e z = absurd e

    paged : (s t : UserStep) → Again s t → UserPagesAt E c m g.log h ls d seat u s
        → UserPagesAt E c m g.log h ls d seat (at_step t) t
    paged user_step.LoadCheckpoint user_step.LoadCheckpoint e z = z
    paged user_step.LoadWrite user_step.LoadWrite e z = z
    paged user_step.LoadWtail user_step.LoadWtail e z = z
    paged user_step.LoadWtail user_step.ReloadWtail e z = z
    paged user_step.ReloadWtail user_step.LoadWtail e z = z
    paged user_step.ReloadWtail user_step.ReloadWtail e z = z
    paged user_step.AwaitMark user_step.AwaitMark e z = z
    paged _ _ e z = absurd e

    closing : (s t : UserStep) → Again s t → UserClosingAt E c m g.log h ls d seat u.advance t
    closing user_step.LoadCheckpoint user_step.LoadCheckpoint e = tt
    closing user_step.LoadWrite user_step.LoadWrite e = tt
    closing user_step.LoadWtail user_step.LoadWtail e = tt
    closing user_step.LoadWtail user_step.ReloadWtail e = tt
    closing user_step.ReloadWtail user_step.LoadWtail e = tt
    closing user_step.ReloadWtail user_step.ReloadWtail e = tt
    closing user_step.AwaitMark user_step.AwaitMark e = tt
    closing _ _ e = absurd e

    user_fits : (t : UserStep) → Again u.step t → UserFits D c m g p seat u → UserFits D c m g p seat (at_step t)
    user_fits t e f = record {
      own_seat = f.own_seat;
      blocks = f.blocks;
      lines = f.lines;
      sound = f.sound;
      are_bytes = f.are_bytes;
      counted = f.counted;
      answers = f.answers;
      loaded = f.loaded;
      step = logged u.step t e f.step;
    }

    page_fits : (t : UserStep) → Again u.step t → UserPageFits E c m g.log h ls d seat u
        → UserPageFits E c m g.log h ls d seat (at_step t)
    page_fits t e f = record {
      there = f.there;
      apart = f.apart;
      within = f.within;
      ascending = f.ascending;
      are_bytes = f.are_bytes;
      loaded = f.loaded;
      closing = closing u.step t e;
      step = paged u.step t e f.step;
    }

    pub user_alike : (actors : List Actor) (both : BothHalves D E c m g h ls p d actors)
        (at : get_elem? actors seat ≡ some (actor.User u)) (t : UserStep) → Again u.step t
        → IsAlike D E c m g h ls p d actors both seat (actor.User u) (actor.User (at_step t)) at m.device
    user_alike actors both at t e = record {
      fits = user_fits t e (both.logged.each seat (actor.User u) at);
      entries_same = refl;
      left = omega arith;
      tails = λ b. no_tail b u.step t e;
      free = λ z b. checks_free b u.step t e;
      pages = page_fits t e (both.paged.each seat (actor.User u) at);
      other = (tt, tt);
      latches = λ k. latch u.step t k e;
      closed = λ v is. closed_by v is (both.closed seat u at);
      in_run = tt;
      reads = tt;
    }
      where
        of_user : Actor → UserState
        of_user (actor.User v) = v
        of_user _ = u

        closed_by : (v : UserState) → ◌≡◌ {A = Actor} (actor.User (at_step t)) (actor.User v)
            → UserClosed g.log h.closed u → UserClosed g.log h.closed v
        closed_by v is old = subst (UserClosed g.log h.closed) (ap of_user is)
            (record { answered = old.answered; in_hand = closed_hand h.closed u.step t e old.in_hand })
