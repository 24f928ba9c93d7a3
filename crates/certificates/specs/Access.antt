-- What is asked for: an owner's right, on a day. Assumes nothing.
use Rattle.std.specs.Prelude.{ℕ}
use Rattle.certificates.specs.declared.access.Access.{Access}

-- an owner's right, before a day is chosen: day 0 stands for any
abbrev pub any_day : ℕ → ℕ → Access
any_day owner right = record { day = 0; owner = owner; right = right }

-- the same on another day
abbrev pub on_day : ℕ → Access → Access
on_day day access = record { day = day; owner = access.owner; right = access.right }

-- the same right of another owner
abbrev pub of_owner : ℕ → Access → Access
of_owner owner access = record { day = access.day; owner = owner; right = access.right }

-- another right of the same owner
abbrev pub for_right : ℕ → Access → Access
for_right right access = record { day = access.day; owner = access.owner; right = right }
