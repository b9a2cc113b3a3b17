-- What is read of a line.
use Rattle.geos_text.specs.Words.{words}
use Rattle.geos_source.specs.declared.operands.Names as code
use Rattle.geos_source.specs.declared.operands.Reading as reader
use Rattle.geos_source.specs.Tables.{table_of}
use Rattle.geos_source.specs.Names.{Names}
use Rattle.geos_source.specs.Operands.{Reading}

-- the names as maps
abbrev pub names_of : code.Names → Names
names_of names = record { labels = table_of names.labels; routines = table_of names.routines }

-- the words that are left
abbrev pub reading_of : reader.Reading → Reading
reading_of reading = record { words = words reading.rest.now; fault = reading.fault }
