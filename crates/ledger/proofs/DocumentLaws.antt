-- The specification's numbers, computed from the definitions. Assumes nothing.
use mathlib.Core.Path.{refl}
use Rattle.ledger.specs.Document.{DocumentSizes}

pub document_sizes : DocumentSizes
document_sizes =
    record {
      line = λ a identifier previous m terms. refl;
      terms = λ cap m. refl;
      header = λ caps capacity. refl;
      row = λ status u identifier terms. refl;
      header_names = refl;
      row_names = refl;
      classes = λ caps. refl;
      line_sized = refl;
      header_sized = refl;
      row_sized = refl;
      shortest = refl;
    }
