-- Why a word is no key.
use Rattle.std.specs.Prelude.{ℕ, Bool, not, ◌==◌, nat_eq, if◌then◌else◌, List, drop, codes}
use Rattle.std.specs.List.{ends_with, list_any}
use Rattle.std.specs.Str.{byte}
use Rattle.git_config.specs.declared.no_key.KeyFault.{KeyFault}
use Rattle.git_config.specs.declared.no_key.KeyFault.TheVariants.{Byte, NoName, NoSection}

-- a full stop stands behind the first byte, so that something stands before it
abbrev pub has_section : List ℕ → Bool
has_section word = list_any (λ b. b == byte ".") (drop 1 word)

-- what is wrong first: it has no section; it has no name; and else a byte of it
abbrev pub fault_of : List ℕ → KeyFault
fault_of word = if not (has_section word) then NoSection else (if ends_with nat_eq word (codes ".") then NoName else Byte)
