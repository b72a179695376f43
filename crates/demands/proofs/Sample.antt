-- The check of the document's sample header. Assumes nothing.
use mathlib.Core.Path.{◌≡◌, refl}
use Rattle.block.specs.Bytes.{value, number, as_bytes, laid, weighed, check_of}
use Rattle.block.specs.Layout.{check_in}
use Rattle.block.specs.Whole.{body, sealed, header_widths, header_bytes}

pub sample_header_check : check_in (header_bytes 2 4 1000) ≡ 2147
unfolding value number as_bytes laid weighed check_of body sealed header_widths header_bytes
sample_header_check = refl
