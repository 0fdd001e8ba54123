use Rattle.std.proofs.Common.{◌∙◌, ◌≤◌, sym, refl, ap, subst, length, List, Some}
use Rattle.std.specs.List.{slice_get}
use Rattle.std.proofs.lemmas.Option.{slice_get_past, slice_get_read}
use Rattle.csp_answer.specs.declared.naming.SourceNames.{SourceNames}
use Rattle.csp_answer.proofs.ListsNamed.{list_named, no_names}
use Rattle.csp_answer.proofs.listed.list_at.Goals as goal

pub returns-in_err-names : goal.returns-in_err-names
returns-in_err-names c = λ atoms is.
    let named = c.args.named.now in
    let place = c.args.place in
    let past : length named.directives ≤ place = subst (λ (each : List (List SourceNames)). length each ≤ place) c.as_slice.ensures c.in_err-names.ensures.lookup.3 in
    rw c.from_residual-in_err-names.ensures (no_names atoms named place is (slice_get_past named.directives place past))

pub returns : goal.returns
returns c = λ atoms is.
    let named = c.args.named.now in
    let place = c.args.place in
    let at = sym c.in_ok-sources.ensures in
    let lookup = c.in_ok-names.ensures.lookup in
    let found = slice_get_read c.as_slice.result.now (length c.as_slice.result.now) place c.in_ok-names.names.now refl lookup.3.0 lookup.1 in
    let own = ap (λ xs. slice_get xs place) (sym c.as_slice.ensures) ∙ found ∙ ap Some (sym c.as_slice-2.ensures) in
    record {
      at = at;
      origin = refl;
      named = record {
        sources = list_named atoms named place is c.in_ok-sources.sources.now c.as_slice-2.result.now at own;
        ports = is.ports;
      };
    }
