-- An advance of WTAIL, whoever makes it: what it leaves of the words and the log, and of its own facts.
use Rattle.std.proofs.Common.{Bool, ap, arith, false, length, refl, subst, sym, true, ℕ, ◌%◌, ◌+◌, ◌<◌, ◌∙◌, ◌≡◌, ◌≢◌, ◌≤◌}
use Rattle.std.specs.Prelude.{List, slice_index, slice_set}
use native.Mathlib.Decide.{dec_le, ℕ_discrete}
use Rattle.model_core.proofs.Groups.{bound_end, tiles_at}
use Rattle.model_core.proofs.Lanes.{word_grows}
use Rattle.model_core.proofs.Lsns.{link_same, lsn_le}
use Rattle.model_core.proofs.Tails.{held_in, tail_in}
use Rattle.model_core.specs.{Actor, Advance, end_of, floor, is_held, IsBound, IsSized, layout_of, lsn, SharedWords, tail_of, tail_word, LogSide, Setup}
use Rattle.model_core.specs.declared.limits.TheConstants.{LOG_BUFFER, WRITTEN_LINKS}
use Rattle.model_logcore.proofs.Frame.{Later, unchanged}
use Rattle.model_logcore.proofs.GroupEnds.{end_near}
use Rattle.model_logcore.proofs.Same.{later_marks, numbers_sized, part_same, stored_else, stored_here, wlinks_sized}
use Rattle.model_logcore.specs.LogFacts.{LogFacts, LogGhost, WrittenLink}
use Rattle.model_logcore.specs.LogFits.{HoldsWtail, LogHalf}

-- what a step of an advance leaves of the words and the log, and to the actors at other seats
pub record Moves (D : LogSide) (c : Setup) (m : SharedWords) (g : LogGhost) (p : D.Part) (seat : ℕ) (m' : SharedWords) (g' : LogGhost) : Type 0 where
  pub sized : IsSized (layout_of c) m'
  pub facts : LogFacts D c m' g' p
  pub later : Later D c m g m' g' seat

-- where the word is that of a tail that is free
pub is_free : (m : SharedWords) (tail : ℕ) → tail_word m.wtail m.wheld ≡ tail_word tail false → (m.wheld ≡ false) × (tail ≡ m.wtail)
is_free m tail e = (sym (held_in m.wtail m.wheld) ∙ ap is_held e ∙ held_in tail false, sym (tail_in tail false) ∙ sym (ap tail_of e) ∙ tail_in m.wtail m.wheld)

module _ (D : LogSide) (c : Setup) (m : SharedWords) (g : LogGhost) (p : D.Part) (actors : List Actor) (before : LogHalf D c m g p actors) where
  pub tails : m.wtail ≤ lsn g.tail
  tails = let O = before.global.order in let a = O.wtail_is in let b = lsn_le g.wtail g.tail O.wtail_tail in omega arith

  -- what a link that stands at the place says
  pub link_here : (n : ℕ) → slice_index m.wlinks (lsn g.tail % WRITTEN_LINKS) ≡ n → 0 < n → (o : WrittenLink g.log g.state m.wtail g.tail (lsn g.tail % WRITTEN_LINKS) n) × (o.group.start ≡ g.tail)
  link_here n v pos =
      let o = before.global.written_links.links_are (lsn g.tail % WRITTEN_LINKS) (omega arith) (omega arith) in
      let o' : WrittenLink g.log g.state m.wtail g.tail (lsn g.tail % WRITTEN_LINKS) n = subst (λ (k : ℕ). WrittenLink g.log g.state m.wtail g.tail (lsn g.tail % WRITTEN_LINKS) k) v o in
      let a = o'.since in let b = o'.near in
      let w = tails in
      (o', link_same o'.group.start g.tail g.tail m.wtail w a (omega arith) b (let l = lsn_le g.tail o'.group.start a in omega arith) (sym o'.slot))

  -- nothing changes
  pub stays : (seat : ℕ) → Moves D c m g p seat m g
  stays seat = record { sized = before.sized; facts = before.global; later = later_marks D c m g p (omega arith) (omega arith) (omega arith) (omega arith) (λ z. z) (λ _ _. unchanged) }

  module _ (seat : ℕ) (v : Advance) where
    -- it takes the tail, which is free: all links below it are cleared
    pub takes_tail : (t : ℕ) (held : Bool) → t ≡ m.wtail → held ≡ true → m.wheld ≡ false → Moves D c m g p seat (record m { wtail = t; wheld = held }) (record g { advancer = seat })
    takes_tail t held t_is held_is free = record {
      sized = numbers_sized before.sized;
      facts = subst (λ (n : ℕ). LogFacts D c (record m { wtail = n; wheld = held }) (record g { advancer = seat }) p) (sym t_is) taken;
      later = later_marks D c m g p (omega arith) (omega arith) (omega arith) (omega arith) (λ z. z) (λ _ had. let z : false ≡ true = sym free ∙ had in absurd (cc));
    }
      where
        taken : LogFacts D c (record m { wheld = held }) (record g { advancer = seat }) p
        taken = let G = before.global in let O = G.order in record {
          tiled = G.tiled;
          order = record {
            base_even = O.base_even;
            write_is = O.write_is;
            wtail_is = O.wtail_is;
            flushed_is = O.flushed_is;
            base_write = O.base_write;
            write_read = O.write_read;
            read_target = O.read_target;
            target_wtail = O.target_wtail;
            wtail_tail = O.wtail_tail;
            free = λ none. let z : true ≡ false = sym held_is ∙ none in absurd (cc);
            tail_sn = O.tail_sn;
            near = O.near;
            read_entered = O.read_entered;
            entered_target = O.entered_target;
            write_bound = O.write_bound;
            wtail_bound = O.wtail_bound;
            tail_bound = O.tail_bound;
            target_bound = O.target_bound;
            flushed_bound = O.flushed_bound;
          };
          ring_cells = G.ring_cells;
          first_offsets = G.first_offsets;
          written_links = G.written_links;
          commits = G.commits;
          part = G.part;
        }

    -- and its place is that tail
    pub holds_it : (t : ℕ) (held : Bool) → t ≡ m.wtail → held ≡ true → m.wheld ≡ false → v.tail ≡ m.wtail → HoldsWtail D c (record m { wtail = t; wheld = held }) (record g { advancer = seat }) p seat (record v { place = v.tail })
    holds_it t held t_is held_is free loaded = let O = before.global.order in record { held = held_is; mine = refl; tail = loaded ∙ sym t_is; place = loaded ∙ O.wtail_is ∙ ap lsn (sym (O.free free)) }

    -- it clears the link at its place, and goes on to the end of the group that starts there
    pub clears_link : (i : ℕ) → i ≡ v.place % WRITTEN_LINKS → HoldsWtail D c m g p seat v → 0 < v.link → slice_index m.wlinks (v.place % WRITTEN_LINKS) ≡ v.link
        → (to : ℕ) × Moves D c m g p seat (record m { wlinks = slice_set m.wlinks i 0 }) (record g { tail = to }) × HoldsWtail D c (record m { wlinks = slice_set m.wlinks i 0 }) (record g { tail = to }) p seat (record v { place = v.place + v.link; link = 0 })
    clears_link i place_is mine some_link value =
        let i_is : i ≡ lsn g.tail % WRITTEN_LINKS = place_is ∙ ap (λ (k : ℕ). k % WRITTEN_LINKS) mine.place in
        let here = link_here v.link (ap (λ (k : ℕ). slice_index m.wlinks (k % WRITTEN_LINKS)) (sym mine.place) ∙ value) some_link in
        let o = here.0 in
        let from = here.1 in
        let e = o.group in
        let to : ℕ = end_of e in
        let m' : SharedWords = record m { wlinks = slice_set m.wlinks i 0 } in
        let G = before.global in
        let O = G.order in
        let lies = tiles_at g.log c.base m.sn o.at e G.tiled.tiles o.is in
        let l0 = lies.0 in let l1 = lies.1 in let l2 = lies.2 in
        let r0 = O.read_target in let r1 = O.target_wtail in let r2 = O.wtail_tail in
        let size = o.size in
        let slot : i < length m.wlinks = omega (arith, before.sized.wlinks) in
        let else : (j : ℕ) → j ≢ i → slice_index m'.wlinks j ≡ slice_index m.wlinks j = λ j n. stored_else m.wlinks i 0 j n in
        let zero_here : (j : ℕ) → j ≡ i → slice_index m'.wlinks j ≡ 0 = λ j z. stored_here m.wlinks i 0 j z slot in
        let w_tails = tails in
        let two : g.state e.start ≡ 2 = o.whole e.start (omega arith) (omega arith) in
        let stands = (G.ring_cells.stands e.start (word_grows g.read e.start (omega arith)) (omega arith) (omega arith)).1 in
        let near_end : lsn to < floor m.write + LOG_BUFFER = end_near c.base m.firsts m.write g.write g.log g.first g.state g.entered e.start e.start to O.write_is G.first_offsets (omega arith) stands (λ crosses. G.first_offsets.stored o.at e o.is two crosses) in (
          to,
          record {
            sized = wlinks_sized i 0 before.sized;
            facts = record {
              tiled = G.tiled;
              order = record {
                base_even = O.base_even;
                write_is = O.write_is;
                wtail_is = O.wtail_is;
                flushed_is = O.flushed_is;
                base_write = O.base_write;
                write_read = O.write_read;
                read_target = O.read_target;
                target_wtail = O.target_wtail;
                wtail_tail = omega arith;
                free = λ none. let z : true ≡ false = sym mine.held ∙ none in absurd (cc);
                tail_sn = l1;
                near = near_end;
                read_entered = O.read_entered;
                entered_target = O.entered_target;
                write_bound = O.write_bound;
                wtail_bound = O.wtail_bound;
                tail_bound = bound_end g.log c.base m.sn o.at e G.tiled.tiles o.is;
                target_bound = O.target_bound;
                flushed_bound = O.flushed_bound;
              };
              ring_cells = G.ring_cells;
              first_offsets = G.first_offsets;
              written_links = record {
                linked = λ x lo hi. elim (dec_le g.tail x) [ yes d ↦ o.whole x (omega arith) hi | no d ↦ G.written_links.linked x lo (omega arith) ];
                links_are = λ j l some_here. elim (ℕ_discrete j i) [
                  | yes z ↦ (let k = zero_here j z in absurd (omega arith))
                  | no n ↦ (let z = else j n in
                      let q = G.written_links.links_are j l (omega arith) in
                      let lo = q.since in
                      let qlies = tiles_at g.log c.base m.sn q.at q.group G.tiled.tiles q.is in
                      let q2 = qlies.2 in
                      let past : to ≤ q.group.start = elim (dec_le to q.group.start) [
                        | yes d ↦ d
                        | no d ↦ (let a = (G.tiled.placed o.at e o.is q.group.start (omega arith) (omega arith)).0 in
                            let k = (G.tiled.placed q.at q.group q.is q.group.start (omega arith) (omega arith)).0 in
                            let same : q.group.start ≡ g.tail = sym k ∙ a ∙ from in
                            absurd (n (q.slot ∙ ap (λ (x : ℕ). lsn x % WRITTEN_LINKS) same ∙ sym i_is)))
                      ] in
                      subst (λ (k : ℕ). WrittenLink g.log g.state m.wtail to j k) (sym z) (record { at = q.at; group = q.group; is = q.is; slot = q.slot; size = q.size; since = past; near = q.near; whole = q.whole }))
                ];
                standing = λ j x x_is linked f. let q = G.written_links.standing j x x_is linked (omega arith) in
                    let q0 = q.0 in let near = q.1 in
                    let n : lsn x.start % WRITTEN_LINKS ≢ i = (λ z. let same : x.start ≡ g.tail = link_same x.start g.tail g.tail m.wtail w_tails (omega arith) (omega arith) near (let k = lsn_le g.tail x.start (omega arith) in omega arith) (z ∙ i_is) in omega arith) in
                    let z = else (lsn x.start % WRITTEN_LINKS) n in
                    (omega arith, near);
              };
              commits = G.commits;
              part = G.part;
            };
            later = later_marks D c m g p (omega arith) (omega arith) (omega arith) (omega arith) (λ z. z) (λ other _. absurd (other mine.mine));
          },
          record { held = mine.held; mine = mine.mine; tail = mine.tail; place = (let a = mine.place in let z : lsn e.start ≡ lsn g.tail = ap lsn from in omega arith) },
        )

    -- it frees the tail with its place. `target` is the tail with which the writer goes on then
    pub frees_tail : (t : ℕ) (held : Bool) (target : ℕ) → t ≡ v.place → held ≡ false → HoldsWtail D c m g p seat v → g.target ≤ target → target ≤ g.tail → IsBound c.base g.log target
        → Moves D c m g p seat (record m { wtail = t; wheld = held }) (record g { wtail = g.tail; target = target })
    frees_tail t held target t_is held_is mine low high bound =
        let G = before.global in let O = G.order in let P = G.part in
        let place = mine.place in
        let up : m.wtail ≤ t = (let a = tails in omega arith) in
        let r0 = O.read_target in let e0 = O.entered_target in
        record {
          sized = numbers_sized before.sized;
          facts = record {
            tiled = G.tiled;
            order = record {
              base_even = O.base_even;
              write_is = O.write_is;
              wtail_is = t_is ∙ mine.place;
              flushed_is = O.flushed_is;
              base_write = O.base_write;
              write_read = O.write_read;
              read_target = omega arith;
              target_wtail = high;
              wtail_tail = omega arith;
              free = λ _. refl;
              tail_sn = O.tail_sn;
              near = O.near;
              read_entered = O.read_entered;
              entered_target = omega arith;
              write_bound = O.write_bound;
              wtail_bound = O.tail_bound;
              tail_bound = O.tail_bound;
              target_bound = bound;
              flushed_bound = O.flushed_bound;
            };
            ring_cells = G.ring_cells;
            first_offsets = G.first_offsets;
            written_links = record {
              linked = G.written_links.linked;
              links_are = λ j l some_here. let q = G.written_links.links_are j l some_here in let near = q.near in record { at = q.at; group = q.group; is = q.is; slot = q.slot; size = q.size; since = q.since; near = omega arith; whole = q.whole };
              standing = λ j x x_is two f. let q = G.written_links.standing j x x_is two f in let near = q.1 in (q.0, omega arith);
            };
            commits = G.commits;
            part = part_same D c m g p P P.write_written (let z = P.given_wtail in omega arith) P.flushed_stable P.ckpt_part P.turn_word;
          };
          later = later_marks D c m g p (omega arith) up (omega arith) (omega arith) (λ z. z) (λ other _. absurd (other mine.mine));
        }
