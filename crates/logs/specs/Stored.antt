-- The code's own type of an entry, and what it means: a write. Assumes nothing.
use Rattle.logs.specs.declared.Entry.{Entry}
use Rattle.logs.specs.Write.{Write}

-- An entry's four words, as a write.
abbrev pub write_of : Entry → Write
write_of e = record { origin = e.origin; clock = e.clock; item = e.item; value = e.value }
