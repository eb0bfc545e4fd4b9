-- The token of an event: a letter, and the processor.
use Rattle.ax_words.specs.declared.source.SourceEvent.{SourceEvent}
use Rattle.ax_words.specs.declared.source.SourceEvent.TheVariants.{Act, Look, Miss, Drain}
use Rattle.ax_words.specs.declared.event.Event.{Event}
use Rattle.ax_words.specs.declared.event.Event.TheVariants.{Step, Drain as Flush, Drop}
use Rattle.ax_print.specs.declared.tokens.Token.{Token}

-- A, L, M and D
abbrev pub source_token : SourceEvent → Token
source_token (Act p) = record { letter = 65; processor = p }
source_token (Look p) = record { letter = 76; processor = p }
source_token (Miss p) = record { letter = 77; processor = p }
source_token (Drain p) = record { letter = 68; processor = p }

-- S, D and X
abbrev pub machine_token : Event → Token
machine_token (Step p) = record { letter = 83; processor = p }
machine_token (Flush p) = record { letter = 68; processor = p }
machine_token (Drop p) = record { letter = 88; processor = p }
