-- What the code's values say, in the words of the rules.
use Rattle.sheet_rules.specs.Shape as R
use Rattle.sheet.specs.declared.shape.Shape as S
use Rattle.sheet.specs.declared.line.Line as L

abbrev pub shape_view : S.Shape → R.Shape
shape_view sh =
    record {
      unknown_columns = sh.unknown_columns;
      columns = sh.columns;
      unknowns = sh.unknowns;
      records = sh.records;
      channels = sh.channels;
      lines = sh.lines;
    }

abbrev pub line_view : L.Line → R.Line
line_view l = record { code = l.code; a = l.a; b = l.b; last = l.last }
