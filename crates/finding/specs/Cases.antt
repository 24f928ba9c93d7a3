-- Worked cases, as rows of one table. Assumes nothing.
use Rattle.std.specs.Prelude.{◌≡◌, ℕ, Bool, true, false, List, [], ◌∷◌, length, is_some, Some, None, Ok, Err, Decides, Option, Result}
use Rattle.certificates.specs.Meaning.{May}
use Rattle.certificates.specs.declared.Certificate.{Certificate}
use Rattle.certificates.specs.declared.Subject.{Subject}
use Rattle.certificates.specs.declared.access.Access.{Access}
use Rattle.certificates.specs.declared.Statement.{Statement}
use Rattle.certificates.specs.declared.Statement.TheVariants.{Name, Rights}
use Rattle.finding.specs.Finding.{find_sheet}
use Rattle.finding_rounds.specs.Rounds.{rounds, written, shown_at_end}
use Rattle.sheets.specs.Bytes.{bytes_of_sheet}
use Rattle.sheets.specs.Checking.{check_sheet}
use Rattle.sheets.specs.Sheets.{Line}
use Rattle.std.specs.List.{AllByRecursion}
use Rattle.finding_turns.specs.Ways.{meant_by}
use Rattle.wire.specs.Numbers.{places}
use Rattle.wire.specs.declared.faults.Fault.{Fault}
use Rattle.wire.specs.declared.faults.Fault.TheVariants.{NotValid, IssuerNotShown, StepNotShown, HouseNotShown}

-- right 3 of house 1, on a day
abbrev pub right_3_on : ℕ → Access
right_3_on day = record { day = day; owner = 1; right = 3 }

-- what is given and asked, and what comes of it
pub record Row : Type 0 where
  pub certificates : List Certificate
  pub day : ℕ
  -- a house asks for right 3 of house 1
  pub house : ℕ
  -- how many rounds there are, and the lines that they write
  pub many : ℕ
  pub lines : List Line
  -- whom a name of house 1 means
  pub name : ℕ
  pub means : List ℕ
  -- the sheet that is found; without one the house may not
  pub sheet : Option (List Line)
  -- a sheet that is shown, and what its check answers
  pub tried : List Line
  pub checked : Result (Unit {0}) Fault

-- what is said of a house of eight followed by names, valid to a last day
abbrev stated : ℕ → (Subject → Statement) → ℕ → ℕ → List ℕ → Certificate
stated issuer says last house names =
    record { issuer = issuer; first = 0; last = last; statement = says (record { house = house; names = places names; count = length names }) }

abbrev names : ℕ → ℕ → ℕ → List ℕ → Certificate
names issuer name house chain = stated issuer (λ who. Name who name) 99 house chain

-- a certificate that gives right 3, and says whether it may be passed on
abbrev gives : Bool → ℕ → ℕ → ℕ → List ℕ → Certificate
gives delegable issuer last house chain = stated issuer (λ who. Rights who 8 delegable) last house chain

abbrev line : ℕ → List ℕ → Line
line certificate houses = record { certificate = certificate; houses = houses }

-- a right that comes by a name: two lines
abbrev pub by_name : Row
by_name = record {
  certificates = names 1 5 2 [] ∷ (gives false 1 99 1 (5 ∷ []) ∷ []);
  day = 0;
  house = 2;
  many = 2;
  lines = line 0 [] ∷ (line 1 (2 ∷ []) ∷ []);
  name = 5;
  means = 2 ∷ [];
  sheet = Some (line 0 [] ∷ (line 1 (2 ∷ []) ∷ []));
  tried = line 0 [] ∷ (line 1 (2 ∷ []) ∷ []);
  checked = Ok tt;
}

-- two houses that call each other's name theirs mean nobody, and one round ends it
abbrev pub ring : Row
ring = record {
  certificates = names 1 5 2 (5 ∷ []) ∷ (names 2 5 1 (5 ∷ []) ∷ []);
  day = 0;
  house = 4;
  many = 1;
  lines = [];
  name = 5;
  means = [];
  sheet = None;
  tried = [];
  checked = Err HouseNotShown;
}

-- with a way out of the ring both names mean the house there: two lines in all
abbrev pub ring_with_exit : Row
ring_with_exit = record {
  certificates = names 1 5 2 (5 ∷ []) ∷ (names 2 5 1 (5 ∷ []) ∷ (names 2 5 4 [] ∷ []));
  day = 0;
  house = 4;
  many = 3;
  lines = line 2 [] ∷ (line 0 (4 ∷ []) ∷ []);
  name = 5;
  means = 4 ∷ [];
  sheet = None;
  tried = line 2 [] ∷ (line 0 (4 ∷ []) ∷ []);
  checked = Err HouseNotShown;
}

-- a name met twice with other names after it: three lines
abbrev pub doubled : Row
doubled = record {
  certificates = names 1 1 1 (2 ∷ (2 ∷ [])) ∷ (names 1 2 1 (3 ∷ (3 ∷ [])) ∷ (names 1 3 1 [] ∷ []));
  day = 0;
  house = 2;
  many = 4;
  lines = line 2 [] ∷ (line 1 (1 ∷ (1 ∷ [])) ∷ (line 0 (1 ∷ (1 ∷ [])) ∷ []));
  name = 1;
  means = 1 ∷ [];
  sheet = None;
  tried = line 2 [] ∷ (line 1 (1 ∷ (1 ∷ [])) ∷ (line 0 (1 ∷ (1 ∷ [])) ∷ []));
  checked = Err HouseNotShown;
}

-- a right that may not be passed on: the house may, and its own certificate gives nothing
abbrev given : List Certificate
given = gives false 1 99 2 [] ∷ (gives true 2 99 4 [] ∷ [])

abbrev pub had_only : Row
had_only = record {
  certificates = given;
  day = 0;
  house = 2;
  many = 2;
  lines = line 0 [] ∷ [];
  name = 5;
  means = [];
  sheet = Some (line 0 [] ∷ []);
  tried = line 0 [] ∷ [];
  checked = Ok tt;
}

abbrev pub not_passed_on : Row
not_passed_on = record {
  certificates = given;
  day = 0;
  house = 4;
  many = 2;
  lines = line 0 [] ∷ [];
  name = 5;
  means = [];
  sheet = None;
  tried = line 0 [] ∷ (line 1 [] ∷ []);
  checked = Err (IssuerNotShown 1);
}

-- valid to day 9: on that day yes, on the next no
abbrev pub last_day : Row
last_day = record {
  certificates = gives false 1 9 2 [] ∷ [];
  day = 9;
  house = 2;
  many = 2;
  lines = line 0 [] ∷ [];
  name = 5;
  means = [];
  sheet = Some (line 0 [] ∷ []);
  tried = line 0 [] ∷ [];
  checked = Ok tt;
}

abbrev pub day_after : Row
day_after = record {
  certificates = gives false 1 9 2 [] ∷ [];
  day = 10;
  house = 2;
  many = 1;
  lines = [];
  name = 5;
  means = [];
  sheet = None;
  tried = line 0 [] ∷ [];
  checked = Err (NotValid 0);
}

-- a sheet whose first line has a step that only its second shows
abbrev pub wrong_order : Row
wrong_order = record {
  certificates = names 1 5 2 [] ∷ (gives false 1 99 1 (5 ∷ []) ∷ []);
  day = 0;
  house = 2;
  many = 2;
  lines = line 0 [] ∷ (line 1 (2 ∷ []) ∷ []);
  name = 5;
  means = 2 ∷ [];
  sheet = Some (line 0 [] ∷ (line 1 (2 ∷ []) ∷ []));
  tried = line 1 (2 ∷ []) ∷ (line 0 [] ∷ []);
  checked = Err (StepNotShown 0 0);
}

-- the owner may, with an empty sheet
abbrev pub the_owner : Row
the_owner = record {
  certificates = [];
  day = 0;
  house = 1;
  many = 1;
  lines = [];
  name = 5;
  means = [];
  sheet = Some [];
  tried = [];
  checked = Ok tt;
}

abbrev pub table : List Row
table = by_name ∷ (ring ∷ (ring_with_exit ∷ (doubled ∷ (had_only ∷ (not_passed_on ∷ (last_day ∷ (day_after ∷ (wrong_order ∷ (the_owner ∷ [])))))))))

-- the row is what the definitions give, with eight houses
pub record ComesTrue (r : Row) : Type 0 where
  pub rounds_are : length (rounds 8 r.certificates (right_3_on r.day)) ≡ r.many
  pub lines_are : written 8 r.certificates (right_3_on r.day) ≡ r.lines
  pub names_are : meant_by 8 (shown_at_end 8 r.certificates (right_3_on r.day)) 1 r.name ≡ r.means
  pub sheet_is : find_sheet 8 r.certificates (right_3_on r.day) r.house ≡ r.sheet
  pub may_is : Decides (is_some r.sheet) (May r.certificates (right_3_on r.day) r.house)
  pub check_is : (check_sheet r.certificates (right_3_on r.day) r.house (length r.tried) (bytes_of_sheet r.tried)).1 ≡ r.checked

abbrev pub AllComeTrue : Type 0
AllComeTrue = AllByRecursion ComesTrue table
