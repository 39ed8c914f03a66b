-- What the program answers to its words, over files and an output.
use Rattle.std.specs.Prelude.{◌≡◌, ◌⊎◌, ℕ, ◌==◌, Bool, false, cond, not, ◌&&◌, List, [], ◌∷◌, map, codes, string_bytes, String, Option, Some, None, Err}
use Rattle.std.specs.Global.{Global}
use Rattle.std.specs.List.{list_all}
use Rattle.std.specs.Str.{bytes_eq}
use Rattle.pe_base.specs.declared.text.Texts.{Texts}
use Rattle.pe_outside.specs.Outside.{HasRisen, grown, GrowsByPrefix}
use Rattle.pe_design.specs.declared.design.Design.{Design}
use Rattle.pe_front.specs.declared.fault.Part.{Part}
use Rattle.pe_front.specs.declared.fault.Fault.{Fault}
use Rattle.pe_front.specs.declared.fault.CheckFault.TheVariants.{Refused}
use Rattle.pe_front.specs.Given.{IsGiven}
use Rattle.pe_questions.specs.declared.answer.Answer.{Answer}
use Rattle.pe_questions.specs.Questions.{questions}
use Rattle.pe_tool.specs.Equivalent.{IsReported}
use Rattle.pe_tool.specs.Refusals.{refusal}
use Rattle.pe_tool.specs.Report.{report, report_status, read_fault, usage}

-- the names of the five files
pub record FileNames : Type 0 where
  pub rtl : List ℕ
  pub upf : List ℕ
  pub lib : List ℕ
  pub net : List ℕ
  pub map : List ℕ

-- a word of two or more bytes that begins with - is no name
abbrev pub is_option : List ℕ → Bool
is_option [] = false
is_option (a ∷ []) = false
is_option (a ∷ b ∷ bs) = a == 45

-- The words are `check` and five names.
abbrev pub names_of : List (List ℕ) → Option FileNames
names_of (command ∷ rtl ∷ upf ∷ lib ∷ net ∷ map ∷ []) =
    cond (bytes_eq command (codes "check") && list_all (λ name. not (is_option name)) (rtl ∷ upf ∷ lib ∷ net ∷ map ∷ []))
    (Some (record { rtl = rtl; upf = upf; lib = lib; net = net; map = map })) None
names_of _ = None

-- the names of the files, in the order of their reading
abbrev pub name_list : FileNames → List (List ℕ)
name_list n = n.rtl ∷ n.upf ∷ n.lib ∷ n.net ∷ n.map ∷ []

-- the files are told, and these are their texts
pub record AreTold (told : List ℕ → Option (List ℕ)) (n : FileNames) (t : Texts) : Type 0 where
  pub rtl : told n.rtl ≡ Some t.rtl
  pub upf : told n.upf ≡ Some t.upf
  pub lib : told n.lib ≡ Some t.lib
  pub net : told n.net ≡ Some t.net
  pub map : told n.map ≡ Some t.map

-- what the program says
pub data Saying : Type 0 where
  reported : Design → List Answer → Saying
  refused : Part → Fault → Saying
  unread : List ℕ → Saying
  misused : Saying

-- the bytes of a saying, and its status
abbrev pub bytes_of : Saying → List ℕ
bytes_of (reported d answers) = report d (questions d) answers
bytes_of (refused part fault) = refusal part fault
bytes_of (unread name) = read_fault name
bytes_of misused = usage

abbrev pub status_of : Saying → ℕ
status_of (reported d answers) = report_status answers
status_of (refused part fault) = 3
status_of (unread name) = 4
status_of misused = 6

-- the name is one of these
abbrev pub IsOneOf : List (List ℕ) → List ℕ → Type 0
IsOneOf [] name = ⊥
IsOneOf (other ∷ names) name = (other ≡ name) ⊎ IsOneOf names name

-- Why a saying is said, of the words, of what is told of the files, and of their counts of faults before and after.
abbrev pub IsCause : List (List ℕ) → (List ℕ → Option (List ℕ)) → (List ℕ → ℕ) → (List ℕ → ℕ) → Saying → Type 0
-- the words are of the rule, and where the files are told these are the design of their texts and the answers to its questions
IsCause words told before after (reported d answers) = (n : FileNames) × (names_of words ≡ Some n) × ((t : Texts) → AreTold told n t → IsReported t d answers)
-- likewise, and the refusal is that of the texts
IsCause words told before after (refused part fault) =
    (n : FileNames) × (names_of words ≡ Some n) × ((t : Texts) → AreTold told n t → IsGiven t (Err (Refused part fault)))
-- likewise, and the count of one of the files rose
IsCause words told before after (unread name) =
    (n : FileNames) × (names_of words ≡ Some n) × IsOneOf (name_list n) name × HasRisen (before name) (after name)
-- the words are not of the rule
IsCause words told before after misused = names_of words ≡ None

-- a saying that has its cause was written whole, and this is its status; or the output's count rose, and it was written in part
pub record IsAnswered (saying : Saying) (status : ℕ) (before after : Option (List ℕ)) (faults_before faults_after : ℕ) : Type 0 where
  pub whole_or_part :
      ((status ≡ status_of saying) × (after ≡ grown before (bytes_of saying)))
      ⊎ ((status ≡ 5) × HasRisen faults_before faults_after × GrowsByPrefix before after (bytes_of saying))

-- the program's words are of the rule, and where the files are told this holds of their texts
abbrev pub OfTexts : List (List ℕ) → (List ℕ → Option (List ℕ)) → (Texts → Type 0) → Type 0
OfTexts words told P = (n : FileNames) × (names_of words ≡ Some n) × ((t : Texts) → AreTold told n t → P t)

-- the counts of none of these rose
abbrev pub NoneRose : (List ℕ → ℕ) → (List ℕ → ℕ) → List (List ℕ) → Type 0
NoneRose before after [] = Unit {0}
NoneRose before after (name ∷ names) = (HasRisen (before name) (after name) → ⊥) × NoneRose before after names

-- what is said of the texts is right
abbrev pub IsRight : Texts → Saying → Type 0
IsRight t (reported d answers) = IsReported t d answers
IsRight t (refused part fault) = IsGiven t (Err (Refused part fault))
IsRight t (unread name) = ⊥
IsRight t misused = ⊥

-- the words, as their bytes
abbrev pub words_of : List (String Global) → List (List ℕ)
words_of words = map string_bytes words

-- the texts are refused, and the line of that refusal was written
abbrev pub IsRefusedRun : List (List ℕ) → (List ℕ → Option (List ℕ)) → Option (List ℕ) → Option (List ℕ) → Type 0
IsRefusedRun words told before after =
    (part : Part) × (fault : Fault) × OfTexts words told (λ t. IsGiven t (Err (Refused part fault))) × (after ≡ grown before (refusal part fault))

-- the count of one of the files rose, and the line that names it was written
abbrev pub IsUnreadRun : List (List ℕ) → (List ℕ → ℕ) → (List ℕ → ℕ) → Option (List ℕ) → Option (List ℕ) → Type 0
IsUnreadRun words faults_before faults_after before after =
    (n : FileNames) × (name : List ℕ) × (names_of words ≡ Some n) × IsOneOf (name_list n) name × HasRisen (faults_before name) (faults_after name)
    × (after ≡ grown before (read_fault name))

-- what has its cause was said
abbrev pub IsSaidRun : List (List ℕ) → (List ℕ → Option (List ℕ)) → (List ℕ → ℕ) → (List ℕ → ℕ) → ℕ → Option (List ℕ) → Option (List ℕ) → ℕ → ℕ → Type 0
IsSaidRun words told faults_before faults_after status before after sink_before sink_after =
    (saying : Saying) × IsCause words told faults_before faults_after saying × IsAnswered saying status before after sink_before sink_after

-- what is right of the texts was said and written whole
abbrev pub IsJudgedRun : Texts → ℕ → Option (List ℕ) → Option (List ℕ) → Type 0
IsJudgedRun t status before after = (saying : Saying) × IsRight t saying × (status ≡ status_of saying) × (after ≡ grown before (bytes_of saying))
