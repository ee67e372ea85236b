use Rattle.std.proofs.Common.{◌≡◌, ◌*◌, ◌∙◌, [], ◌∷◌, length, ap, subst, sym, ℕ}
use Rattle.redo_disk.specs.{error_of, MakesCalls, Request, Serve, ToRead}
use Rattle.redo_disk.proofs.Made.{call_serves}
use Rattle.redo_disk.specs.{IsRange}
use Rattle.redo_dblwr.specs.Requests.{stretch_read}
use Rattle.redo_dblwr.proofs.Ranges.{stretch-range}
use Rattle.redo_dblwr.proofs.stretch.read_stretch.Goals as goal

pub returns-clause-calls : goal.returns-clause-calls
returns-clause-calls g c =
    let n = c.args.n in
    let shape = c.args.shape.now in
    let number : c.from.result ≡ n = c.from.ensures in
    let page : c.from-2.result ≡ shape.page_size = c.from-2.ensures in
    let size : length c.args.out.now ≡ shape.page_size = c.requires.out in
    let asked : ToRead (c.from.result * c.from-2.result) (length c.args.out.now) ≡ stretch_read shape n =
    ap (λ m. ToRead (m * c.from-2.result) (length c.args.out.now)) number ∙ ap (λ s. ToRead (n * s) (length c.args.out.now)) page ∙ ap (ToRead (n * shape.page_size)) size in
    subst (λ (r : Request). MakesCalls g.D.Sectors.gives c.args.device.now c.read.new.self (Serve (r ∷ []) (error_of c.read.result))) asked
    (call_serves c.read.ensures.gives)

pub read-requires : goal.read-requires
read-requires g c =
    let shape = c.args.shape.now in
    let size = (g.D.Sectors.seen c.args.device.now).size in
    let at : c.from.result * c.from-2.result ≡ c.args.n * shape.page_size =
    ap (λ (m : ℕ). m * c.from-2.result) c.from.ensures ∙ ap (λ (s : ℕ). c.args.n * s) c.from-2.ensures in
    let range : IsRange size (c.args.n * shape.page_size) shape.page_size =
    stretch-range shape size c.args.n c.requires.limits.page_size c.requires.long c.requires.inside in
    subst (λ (n : ℕ). IsRange size n (length c.args.out.now)) (sym at)
    (subst (λ (n : ℕ). IsRange size (c.args.n * shape.page_size) n) (sym c.requires.out) range)
