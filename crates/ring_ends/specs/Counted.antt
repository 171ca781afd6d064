-- The blocks that a reader cleared, where there is one.
-- Source: PSRDADA manual (ring buffers of a writer and its readers); the form is this project's choice.
use Rattle.std.specs.Prelude.{List, [], Option, None, Some}
use Rattle.ring_blocks.specs.declared.Entry.{Entry}
use Rattle.ring_words.specs.declared.views.ReaderView.{ReaderView}

abbrev pub cleared_of : Option ReaderView → List Entry
cleared_of None = []
cleared_of (Some r) = r.cleared
