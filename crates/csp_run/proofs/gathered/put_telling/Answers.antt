use Rattle.std.proofs.Common.{List, ℕ, ◌++◌, OnErr, ◌∙◌, sym, ap, subst}
use Rattle.std.specs.List.{flat_map}
use Rattle.csp_desk.specs.Tellings.{telling_text}
use Rattle.csp_io.specs.Told.{GrewByPrefix}
use Rattle.csp_run.proofs.gathered.put_telling.Goals as goal

pub returns-in-Held-clause-prefix : goal.returns-in-Held-clause-prefix
returns-in-Held-clause-prefix g c =
    let P : List ℕ → Type 0 = λ text. OnErr c.put_pieces.result (GrewByPrefix (g.S.Sink.taken c.args.out.now)
    (g.S.Sink.taken c.put_pieces.new.out) (c.args.gathered.now.items ++ text)) in
    subst P (ap (flat_map (λ piece. piece.now)) c.as_slice-in-Held.ensures.value ∙ ap telling_text (sym c.in-Held.is))
    c.put_pieces.ensures.prefix
