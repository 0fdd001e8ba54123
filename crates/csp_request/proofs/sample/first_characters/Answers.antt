use Rattle.std.proofs.lemmas.Iterator.{text_from_collect, YieldsList-from_take, YieldsList-from_chars}
use Rattle.csp_request.proofs.sample.first_characters.Goals as goal

pub returns : goal.returns
returns c = text_from_collect _ c.collect.ensures.ran
    (YieldsList-from_take 40 (YieldsList-from_chars c.args.source.now c.utf8.source (cc)) (cc))
