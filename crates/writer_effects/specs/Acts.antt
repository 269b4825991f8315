-- The code's assertion as model's.
use Rattle.model.specs.Writers.{Assertion as AssertionOf}
use Rattle.writer_effects.specs.declared.Assertion.{Assertion}

abbrev pub assertion_of : Assertion → AssertionOf
assertion_of a = record { guid = a.guid; named = a.named; manual = a.manual; clock = a.clock }
