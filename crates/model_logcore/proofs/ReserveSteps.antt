-- A user reserves a group.
use Rattle.std.proofs.Common.{List, [], ap, arith, drop, inl, inr, length, length-append, refl, set, subst, sym, take, ℕ, ⊎_elim, ◌*◌, ◌++◌, ◌+◌, ◌-◌, ◌/◌, ◌<◌, ◌∙◌, ◌∷◌, ◌≡◌, ◌≤◌}
use Rattle.std.proofs.Math.Seq.{take-append_seam}
use Rattle.std.proofs.lemmas.List.{take-append-le}
use Rattle.std.specs.Prelude.{slice_index}
use lib.ListN.{get_elem?}
use mathlib.Core.Option.{some}
use native.Mathlib.Decide.{dec_le, ℕ_discrete}
use Rattle.model_base.specs.declared.limits.TheConstants.{LSN_LIMIT, MAX_GROUP}
use Rattle.model_log.specs.declared.layout.TheConstants.{BLOCK_DATA}
use Rattle.model_core.proofs.Lists.{at_last, at_longer}
use Rattle.model_core.proofs.Groups.{at_end, at_less, back, bound_snoc, byte_snoc, crosses_is, first_from, first_snoc, ranged, ranged_below, ranged_in, stream_long, stream_snoc, tiles_at, tiles_snoc, sum_of_append}
use Rattle.model_core.proofs.Lanes.{base_word}
use Rattle.model_core.proofs.Lsns.{lsn_below, lsn_le}
use Rattle.model_core.specs.{Actor, byte_at, end_of, entries, Entry, entry, first_of, group_bytes, Line, line, line_at, PageChange, SharedWords, stream, sum_of, Tiles, user_took, UserState, LogSide, Setup}
use Rattle.model_logcore.proofs.UserGroups.{count_snoc, entries_snoc, lengths_step, none_of, one_of}
use Rattle.model_logcore.proofs.Frame.{unchanged, Kept, moved, others_later, taken_same, total_set}
use Rattle.model_logcore.proofs.Same.{numbers_sized}
use Rattle.model_logcore.specs.LogFacts.{LogGhost, Place, count_of, sum_over_actors}
use Rattle.model_logcore.specs.LogFits.{UserAt, UserFits, LogHalf, left_to_reserve, lengths}
use Rattle.model_logcore.specs.LogLaws.{LogLaws}
use Rattle.model_core.specs.declared.steps.UserStep.TheVariants as user_step
use Rattle.model_core.specs.States as actor

-- a block with a first offset begins at or below the end of the groups
first_low : (base : ℕ) (log : List Entry) (n q v : ℕ) → Tiles base log n → base ≤ n → 0 < v → v ≡ first_of base log q → q ≤ n / BLOCK_DATA
first_low base log n q v t le some_v true_v = elim (ℕ_discrete q (base / BLOCK_DATA)) [
  | yes d ↦ omega arith
  | no d ↦ ⊎_elim (λ z. absurd (omega arith)) (λ z. let w = tiles_at log base n z.0 z.1 t z.2 in let k = crosses_is q z.1 z.3 in let a = w.1 in let b = k.0 in omega arith) (first_from base log q d)
]

-- the first offsets of the blocks up to the new group's stay
firsts_old : (base : ℕ) (log : List Entry) (e : Entry) (n q v : ℕ) → Tiles base log n → e.start ≡ n → base ≤ n → 0 < v → v ≡ first_of base log q → v ≡ first_of base (log ++ e ∷ []) q
firsts_old base log e n q v t is le some_v true_v = let low = first_low base log n q v t le some_v true_v in true_v ∙ sym (first_snoc base log e q (omega arith))

module _ (D : LogSide) (L : LogLaws D) (c : Setup) (m : SharedWords) (g : LogGhost) (p : D.Part) (actors : List Actor) (seat : ℕ) (u : UserState) (before : LogHalf D c m g p actors) (at : get_elem? actors seat ≡ some (actor.User u)) where
  mine : UserFits D c m g p seat u
  mine = before.each seat (actor.User u) at

  -- it reserves a group
  pub keeps_reserve : UserAt D c m g p seat u user_step.Reserve → (h : LogGhost) × Kept D c (record m { sn = m.sn + length (group_bytes u) }) h p (set actors seat (actor.User (user_took u m.sn user_step.Reserve))) × (◌≡◌ {A = List Entry} (h.log) (g.log ++ entry u.user u.k m.sn (line u) ∷ []))
  keeps_reserve is =
      let n : ℕ = m.sn in
      let b : ℕ = length (group_bytes u) in
      let q : Place = record { owner = seat; start = n; end = n + b } in
      let e : Entry = entry u.user u.k n (line u) in
      let m' : SharedWords = record m { sn = n + b } in
      let g' : LogGhost = record g { log = g.log ++ e ∷ []; place = ranged g.place n (n + b) q; state = ranged g.state n (n + b) 0 } in
      let w : UserState = user_took u m.sn user_step.Reserve in
      let G = before.global in
      let T = G.tiled in
      let O = G.order in
      let P = G.part in
      let sound = mine.sound u.k is.1 in
      let pos = sound.0 in let few = sound.1 in
      let o1 = O.write_read in let o2 = O.read_target in let o6 = O.target_wtail in let o3 = O.wtail_tail in let o4 = O.tail_sn in let o5 = O.base_write in
      let line : u.lines ≡ c.script u.user = mine.lines in
      let below : (x : ℕ) → x < n → ◌≡◌ {A = Place} (g'.place x) (g.place x) = λ x l. ranged_below g.place n (n + b) q x l in
      let state_below : (x : ℕ) → x < n → g'.state x ≡ g.state x = λ x l. ranged_below g.state n (n + b) 0 x l in
      let inside : (x : ℕ) → n ≤ x → x < n + b → ◌≡◌ {A = Place} (g'.place x) q = λ x l r. ranged_in g.place n (n + b) q x l r in
      let state_in : (x : ℕ) → n ≤ x → x < n + b → g'.state x ≡ 0 = λ x l r. ranged_in g.state n (n + b) 0 x l r in
      let wide : c.base + length (stream g.log) ≡ n = stream_long g.log c.base n T.tiles in
      let old : (x : ℕ) → c.base ≤ x → x < n → byte_at c.base g'.log x ≡ byte_at c.base g.log x = λ x lo hi. byte_snoc g.log c.base n e x T.tiles lo hi in
      let new : (j : ℕ) → byte_at c.base g'.log (n + j) ≡ slice_index (group_bytes u) j = λ j.
      ap (λ (z : List ℕ). slice_index z (n + j - c.base)) (stream_snoc g.log e) ∙ ap (slice_index (stream g.log ++ group_bytes u)) (let z : n + j - c.base ≡ length (stream g.log) + j = omega arith in z) ∙ back (stream g.log) (group_bytes u) (length (stream g.log)) j refl in
      let lies : (i : ℕ) (x : Entry) → get_elem? g.log i ≡ some x → (c.base ≤ x.start) × (end_of x ≤ n) × (0 < length x.bytes) × (length x.bytes ≤ MAX_GROUP) = λ i x z. tiles_at g.log c.base n i x T.tiles z in
      let last : get_elem? (g.log ++ e ∷ []) (length g.log) ≡ some e = at_last g.log e (length g.log) refl in
      let counted : count_of u.user (g.log ++ e ∷ []) ≡ length w.starts = (let a = count_snoc u.user g.log e in let o = one_of u.user e refl in let z = mine.counted in omega (arith, length-append u.starts (n ∷ []))) in
      let long : length w.starts ≡ u.k + 1 = (let z = is.0 in omega (arith, length-append u.starts (n ∷ []))) in
      let first_old : (r : ℕ) → BLOCK_DATA * r < g.target → first_of c.base g'.log r ≡ first_of c.base g.log r =
      λ r l. first_snoc c.base g.log e r (omega arith) in
      let added : entries (actor.User w) ≡ entries (actor.User u) ++ e ∷ [] = entries_snoc u.user u.lines 0 u.starts n ∙ ap (λ (j : ℕ). entries (actor.User u) ++ entry u.user j n (line_at u.lines j) ∷ []) (let z : 0 + length u.starts ≡ u.k = (let y = is.0 in omega arith) in z) in
      let rest : lengths (drop (length u.starts) u.lines) ≡ b + lengths (drop (length w.starts) u.lines) =
      ap (λ (j : ℕ). lengths (drop j u.lines)) is.0 ∙ lengths_step u.lines u.k is.1 ∙ ap (λ (j : ℕ). b + lengths (drop j u.lines)) (sym long) in (
        g',
        moved D c m m' g g' p p actors seat (actor.User w) before
            (numbers_sized before.sized)
            (record {
              tiled = record {
                tiles = tiles_snoc g.log c.base n e T.tiles refl pos few;
                placed = λ i x x_is y lo hi. ⊎_elim
                    (λ z. let v = lies i x z in let v1 = v.1 in let o = T.placed i x z y lo hi in let k = below y (omega arith) in (ap (λ (r : Place). r.start) k ∙ o.0, ap (λ (r : Place). r.end) k ∙ o.1))
                    (λ z. subst (λ (r : Entry). r.start ≤ y → y < end_of r → ((g'.place y).start ≡ r.start) × ((g'.place y).end ≡ end_of r)) z.1 (λ lo hi. let k = inside y lo hi in (ap (λ (r : Place). r.start) k, ap (λ (r : Place). r.end) k)) lo hi)
                    (at_end g.log e x i x_is);
                lines = λ i x x_is. ⊎_elim (λ z. T.lines i x z)
                    (λ z. subst (λ (r : Entry). (r.k < length (c.script r.user)) × (r.bytes ≡ (line_at (c.script r.user) r.k).bytes) × ◌≡◌ {A = List PageChange} r.changes (line_at (c.script r.user) r.k).changes) z.1 (subst (λ (ls : List Line). u.k < length ls) line is.1, ap (λ (ls : List Line). (line_at ls u.k).bytes) line, ap (λ (ls : List Line). (line_at ls u.k).changes) line))
                    (at_end g.log e x i x_is);
                ranks = λ i x x_is. ⊎_elim
                    (λ z. let l = at_less g.log i x z in T.ranks i x z ∙ ap (count_of x.user) (sym (take-append-le i g.log (e ∷ []) (omega arith))))
                    (λ z. subst (λ (r : Entry). r.k ≡ count_of r.user (take i (g.log ++ e ∷ []))) z.1
                    (sym is.0 ∙ sym mine.counted ∙ ap (count_of u.user) (sym (ap (λ (j : ℕ). take j (g.log ++ e ∷ [])) z.0 ∙ take-append_seam g.log (e ∷ [])))))
                    (at_end g.log e x i x_is);
                bytes = λ x lo hi. elim (dec_le n x) [
                  | yes d ↦ (let j : ℕ = x - n in let z : n + j ≡ x = omega arith in let v : byte_at c.base g'.log x ≡ slice_index (group_bytes u) j = subst (λ (y : ℕ). byte_at c.base g'.log y ≡ slice_index (group_bytes u) j) z (new j) in let r = mine.are_bytes u.k j (omega arith) in omega arith)
                  | no d ↦ (let z = old x lo (omega arith) in let o = T.bytes x lo (omega arith) in omega arith)
                ];
              };
              order = record {
                base_even = O.base_even;
                write_is = O.write_is;
                wtail_is = O.wtail_is;
                flushed_is = O.flushed_is;
                base_write = O.base_write;
                write_read = O.write_read;
                read_target = O.read_target;
                target_wtail = O.target_wtail;
                wtail_tail = O.wtail_tail;
                free = O.free;
                tail_sn = omega arith;
                near = O.near;
                read_entered = O.read_entered;
                entered_target = O.entered_target;
                write_bound = bound_snoc g.log c.base g.write e O.write_bound;
                wtail_bound = bound_snoc g.log c.base g.wtail e O.wtail_bound;
                tail_bound = bound_snoc g.log c.base g.tail e O.tail_bound;
                target_bound = bound_snoc g.log c.base g.target e O.target_bound;
                flushed_bound = bound_snoc g.log c.base g.flushed e O.flushed_bound;
              };
              ring_cells = record {
                wide = G.ring_cells.wide;
                stands = λ x l r s. elim (dec_le n x) [
                  | yes d ↦ (let z = state_in x d r in absurd (omega arith))
                  | no d ↦ (let lt : x < n = omega arith in let o = G.ring_cells.stands x l lt (let z = state_below x lt in omega arith) in (o.0 ∙ sym (old x (base_word c.base g.read x O.base_even (omega arith) l) lt), o.1))
                ];
                bare = λ x lo hi z. G.ring_cells.bare x lo hi (elim (dec_le n x) [
                  | yes d ↦ inr (inl d)
                  | no d ↦ ⊎_elim (λ y. inl y) (λ y. ⊎_elim (λ w. absurd (omega arith)) (λ w. inr (inr (sym (state_below x (omega arith)) ∙ w))) y) z
                ]);
              };
              first_offsets = record {
                slots_are = G.first_offsets.slots_are;
                near = G.first_offsets.near;
                true_first = λ r s. firsts_old c.base g.log e n r (g.first r) T.tiles refl (omega arith) s (G.first_offsets.true_first r s);
                stored = λ i x x_is two cross. ⊎_elim (λ z. let v = lies i x z in let v1 = v.1 in let v2 = v.2 in G.first_offsets.stored i x z (let k = state_below x.start (omega arith) in omega arith) cross)
                    (λ z. let y : x.start ≡ n = ap (λ (r : Entry). r.start) (sym z.1) in let k = state_in x.start (omega arith) (omega arith) in absurd (omega arith))
                    (at_end g.log e x i x_is);
                begun = G.first_offsets.begun;
              };
              written_links = record {
                linked = λ x lo hi. state_below x (omega arith) ∙ G.written_links.linked x lo hi;
                links_are = λ i l s. let o = G.written_links.links_are i l s in let v = (lies o.at o.group o.is).1 in record {
                  at = o.at;
                  group = o.group;
                  is = at_longer g.log (e ∷ []) o.at o.group o.is;
                  slot = o.slot;
                  size = o.size;
                  since = o.since;
                  near = o.near;
                  whole = λ x l r. state_below x (omega arith) ∙ o.whole x l r;
                };
                standing = λ i x x_is two since. ⊎_elim (λ z. let v = lies i x z in let v1 = v.1 in let v2 = v.2 in G.written_links.standing i x z (let k = state_below x.start (omega arith) in omega arith) since)
                    (λ z. let y : x.start ≡ n = ap (λ (r : Entry). r.start) (sym z.1) in let k = state_in x.start (omega arith) (omega arith) in absurd (omega arith))
                    (at_end g.log e x i x_is);
              };
              commits = record {
                flush = λ i x x_is k. ⊎_elim (λ z. G.commits.flush i x z k) (λ z. let y : u.k < g.answered u.user = subst (λ (r : Entry). r.k < g.answered r.user) (sym z.1) k in let v = mine.answers in absurd (omega arith)) (at_end g.log e x i x_is);
                wrote = λ i x x_is k. ⊎_elim (λ z. G.commits.wrote i x z k) (λ z. let y : u.k < g.answered u.user = subst (λ (r : Entry). r.k < g.answered r.user) (sym z.1) k in let v = mine.answers in absurd (omega arith)) (at_end g.log e x i x_is);
                linked = λ i x x_is k y lo hi. ⊎_elim (λ z. let v = (lies i x z).1 in state_below y (omega arith) ∙ G.commits.linked i x z k y lo hi) (λ z. let low : u.k < g.answered u.user = subst (λ (r : Entry). r.k < g.answered r.user) (sym z.1) k in let v = mine.answers in absurd (omega arith)) (at_end g.log e x i x_is);
                last = λ v. let a = count_snoc v g.log e in elim (ℕ_discrete u.user v) [
                  | yes z ↦ (let o = one_of v e z in let k = mine.answers in let w = mine.counted in let y = is.0 in
                      let k' : g.answered v ≡ u.k = ap g.answered (sym z) ∙ k in
                      let w' : count_of v g.log ≡ length u.starts = ap (λ (r : ℕ). count_of r g.log) (sym z) ∙ w in
                      omega arith)
                  | no n ↦ (let o = none_of v e n in let l = G.commits.last v in omega arith)
                ];
              };
              part = record {
                holds = L.more c.blocks c.base n g.log e p O.base_even T.tiles refl pos (let a = P.given_wtail in let z = O.wtail_is in let y = lsn_le g.wtail n (omega arith) in omega arith) P.holds;
                written = P.written;
                stable = P.stable;
                written_is = P.written_is;
                stable_is = P.stable_is;
                written_bound = bound_snoc g.log c.base P.written e P.written_bound;
                stable_bound = bound_snoc g.log c.base P.stable e P.stable_bound;
                write_written = P.write_written;
                written_wtail = P.written_wtail;
                given_wtail = P.given_wtail;
                flushed_stable = P.flushed_stable;
                stable_written = P.stable_written;
                ckpt_part = P.ckpt_part;
                written_given = P.written_given;
                ckpt_asked = P.ckpt_asked;
                asked_stable = P.asked_stable;
                turn_word = P.turn_word;
              };
            })
            (record {
              own_seat = mine.own_seat;
              blocks = mine.blocks;
              lines = mine.lines;
              sound = mine.sound;
              are_bytes = mine.are_bytes;
              counted = counted;
              answers = mine.answers;
              loaded = mine.loaded;
              step = (
                long,
                is.1,
                record {
                  at = length g.log;
                  is = last;
                  own = λ x l r. ap (λ (z : Place). z.owner) (inside x l r);
                  done = λ x l r. absurd (omega arith);
                  bare = λ x l r. state_in x (omega arith) r;
                },
                refl,
                (λ cross. elim (dec_le 1 (g.first ((n + b) / BLOCK_DATA))) [
                  | yes d ↦ (let low = first_low c.base g.log n ((n + b) / BLOCK_DATA) (g.first ((n + b) / BLOCK_DATA)) T.tiles (omega arith) d (G.first_offsets.true_first ((n + b) / BLOCK_DATA) d) in absurd (omega arith))
                  | no d ↦ omega arith
                ]),
              );
            })
            (λ j a ne a_is. others_later D c m m' g g' p p seat G
            (record {
              write = omega arith;
              wtail = omega arith;
              ckpt = omega arith;
              flushed = omega arith;
              failed = λ z. z;
              logs = λ i x z. at_longer g.log (e ∷ []) i x z;
              places = λ x l o. below x l;
              states = λ x l o. state_below x l;
              linked = λ x l two. state_below x l ∙ two;
              firsts = λ r z. z;
              bare = λ _ _ _ _ _ z. z;
              seats = λ v. refl;
              counts = λ v other. let a = count_snoc v g.log e in let z = none_of v e (λ y. other (ap g.seat_of (sym y) ∙ mine.own_seat)) in omega arith;
              answers = λ v other. refl;
              holder = λ _ _. unchanged;
            })
            (record { writer = refl; gwrite = refl; target = refl; read = refl; entered = refl; write = refl; ckpt = omega arith; failed = λ z. z; bytes = λ x lo hi. old x lo (omega arith); firsts = first_old; written = refl })
            (record { writer = refl; flushed = refl; ckpt_word = refl; failed = λ z. z; point = refl })
            j a ne (λ h. refl) (before.each j a a_is))
            (λ h. absurd (cc)) (λ j a ne a_is h. before.turns j a a_is h)
            (λ h.
            let s = total_set (λ x. sum_of h (entries x)) actors seat (actor.User u) (actor.User w) at in
            let z = before.counted h in
            let v : sum_of h (entries (actor.User w)) ≡ sum_of h (entries (actor.User u)) + (h e + 0) = ap (sum_of h) added ∙ sum_of_append h (entries (actor.User u)) (e ∷ []) in
            let l : sum_of h (g.log ++ e ∷ []) ≡ sum_of h g.log + (h e + 0) = sum_of_append h g.log (e ∷ []) in
            omega arith)
            (let s = total_set left_to_reserve actors seat (actor.User u) (actor.User w) at in
            lsn_below (m.sn + length (group_bytes u) + sum_over_actors left_to_reserve (set actors seat (actor.User w))) (m.sn + sum_over_actors left_to_reserve actors) LSN_LIMIT (omega arith) before.room)
            (λ d. taken_same actors seat (actor.User u) (actor.User w) g.holder at (λ h. absurd (cc)) (before.taken d)),
        refl,
      )
