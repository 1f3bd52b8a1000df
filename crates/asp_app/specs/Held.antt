-- What the entry of a name weighs.
use Rattle.std.specs.Prelude.{ℕ, List}
use Rattle.std.specs.Map.{lookup}
use Rattle.std.specs.Option.{option_map_or}
use Rattle.vb_value.specs.declared.value.Value.{Value}
use Rattle.asp_job.specs.Application.{is_name, weight_of_entry}

-- what the entry of a name weighs, 0 where it is absent
abbrev pub held_weight : List ℕ → List (List ℕ × Value) → ℕ
held_weight name entries = option_map_or (λ value. weight_of_entry (name, value)) (lookup (is_name name) entries) 0
