use Rattle.csp_tidy.proofs.Steps.{thins_none}
use Rattle.csp_tidy.proofs.tidying.tidy.Goals as goal

pub returns : goal.returns
returns c =
    let is = c.in_ok-thinned.ensures in record {
      readable = is.thinner.readable;
      thinning = is.thinner.thinning c.args.list.now (thins_none c.args.list.now c.requires);
      equivalent = is.thinner.equivalent;
      forward = c.in_ok-forward.ensures;
      backward = c.in_ok-backward.ensures;
      places = is.places;
      needed = is.needed;
    }
