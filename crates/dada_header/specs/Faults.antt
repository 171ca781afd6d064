-- When a header is refused.
-- Source: PSRDADA manual (a header is lines of keyword and value); what is refused is this project's choice.
use Rattle.std.specs.Prelude.{◌≡◌, ℕ, ◌<◌, ◌≤◌, List, length, None, Err}
use Rattle.dada_model.specs.Fields.{least_header, ShortHeader, BadHeaderSize, NotTextAt, header_size, header_of}
use Rattle.dada_header.specs.declared.faults.HeaderFault.{HeaderFault}
use Rattle.dada_header.specs.declared.faults.HeaderFault.TheVariants.{Short, NotText, BadSize, Memory}

-- why no size can be read: fewer bytes than the least header has; else HDR_SIZE
abbrev pub IsSizeRefusal : List ℕ → HeaderFault → Type 0
IsSizeRefusal bytes (Short had) = (length bytes < least_header) × (had ≡ length bytes)
IsSizeRefusal bytes (NotText place) = ⊥
IsSizeRefusal bytes BadSize = (least_header ≤ length bytes) × (header_size bytes ≡ None)
IsSizeRefusal bytes Memory = ⊥

-- the first refusal of the bytes
abbrev pub IsHeaderRefusal : List ℕ → HeaderFault → Type 0
IsHeaderRefusal bytes (Short had) = header_of bytes ≡ Err (ShortHeader had)
IsHeaderRefusal bytes (NotText place) = header_of bytes ≡ Err (NotTextAt place)
IsHeaderRefusal bytes BadSize = header_of bytes ≡ Err BadHeaderSize
IsHeaderRefusal bytes Memory = ⊥

-- the first refusal of the bytes, or a want of memory
abbrev pub ExplainsHeader : List ℕ → HeaderFault → Type 0
ExplainsHeader bytes (Short had) = IsHeaderRefusal bytes (Short had)
ExplainsHeader bytes (NotText place) = IsHeaderRefusal bytes (NotText place)
ExplainsHeader bytes BadSize = IsHeaderRefusal bytes BadSize
ExplainsHeader bytes Memory = Unit {0}
