-- Names of attributes.
use Rattle.std.specs.Prelude.{ℕ, Bool, not, ◌&&◌, ◌||◌, ◌==◌, nat_eq, List, length, codes}
use Rattle.std.specs.Char.{is_ascii_alphanumeric}
use Rattle.std.specs.List.{list_all, starts_with}
use Rattle.std.specs.Str.{byte}

-- a letter or a digit of ASCII, a hyphen, an underscore or a full stop
abbrev pub is_name_byte : ℕ → Bool
is_name_byte b = is_ascii_alphanumeric b || ((b == byte "-" || b == byte "_") || b == byte ".")

-- a name has a byte, the first is no hyphen, and each is one of those
abbrev pub is_name : List ℕ → Bool
is_name name = (not (length name == 0) && not (starts_with nat_eq name (codes "-"))) && list_all is_name_byte name
