-- A library by the rules of its format, each spelled out, with no thought of how many tokens tell statements apart:
--     group     = word "(" [ argument { [","] argument } ] ")" "{" { statement } "}" [";"]
--     statement = group | word ":" value { value } stop | word "(" [ arguments ] ")" [";"]
-- Values and arguments are words or quoted texts. A list of values ends with `;` or with the end of its line, and with neither
-- directly before `}` alone. A token's terminal is here what it is by itself, so that a value is a word or a quoted text as any
-- other. Which ends of lines are tokens is told where the text is cut into tokens.
use Rattle.std.specs.Prelude.{◌≡◌, ◌⊎◌, ℕ, suc, false, List, [], ◌∷◌, ◌++◌, map}
use Rattle.pe_grammar.specs.declared.terminal.Token.{Token as Terminal}
use Rattle.pe_reader.specs.Words.{word_at}
use Rattle.pe_text.specs.declared.language.Lang.TheVariants.{Liberty}
use Rattle.pe_text.specs.declared.token.Token.{Token}
use Rattle.pe_text.specs.Scan.{IsScanned}
use Rattle.pe_liberty_read.specs.Contents.{contents_of}
use Rattle.pe_liberty_read.specs.Meaning.{attr_with, group_with}
use Rattle.pe_liberty_read.specs.Terminals.{terminal_of, bytes_of}
use Rattle.pe_liberty_read.specs.declared.liberty_table.TheConstants.{LIBRARY, WORD, TEXT, OPEN, CLOSE, BEGIN, END, COLON, SEMI, COMMA, LINE}
use Rattle.pe_liberty_read.specs.declared.tree.Group.{Group}
use Rattle.pe_liberty_read.specs.declared.statement.Statement.{Statement}
use Rattle.pe_liberty_read.specs.declared.statement.Statement.TheVariants as statement

-- what each token is by itself, with its number, the first being n
abbrev pub plain_from : List ℕ → ℕ → List Token → List Terminal
plain_from text n [] = []
plain_from text n (t ∷ ts) = record { kind = terminal_of false t.kind (bytes_of text t); place = n } ∷ plain_from text (suc n) ts

abbrev pub plain_of : List ℕ → List Token → List Terminal
plain_of text tokens = plain_from text 0 tokens

-- a word, `library` among them
abbrev pub IsWord : Terminal → Type 0
IsWord t = (t.kind ≡ LIBRARY) ⊎ (t.kind ≡ WORD)

-- a value, and an argument: a word or a quoted text
abbrev pub IsValue : Terminal → Type 0
IsValue t = IsWord t ⊎ (t.kind ≡ TEXT)

abbrev pub AreValues : List Terminal → Type 0
AreValues [] = Unit {0}
AreValues (t ∷ ts) = IsValue t × AreValues ts

-- what ends a list of values: `;` or the end of its line
abbrev pub IsStop : Terminal → Type 0
IsStop t = (t.kind ≡ SEMI) ⊎ (t.kind ≡ LINE)

-- [";"]
abbrev pub IsEnding : List Terminal → Type 0
IsEnding [] = Unit {0}
IsEnding (t ∷ []) = t.kind ≡ SEMI
IsEnding (t ∷ u ∷ ts) = ⊥

-- { [","] argument }, and the arguments among them
pub data IsMore : List Terminal → List Terminal → Type 0 where
  none : IsMore [] []
  next : (t : Terminal) (ts args : List Terminal) → IsValue t → IsMore ts args → IsMore (t ∷ ts) (t ∷ args)
  behind_comma : (c t : Terminal) (ts args : List Terminal) → c.kind ≡ COMMA → IsValue t → IsMore ts args → IsMore (c ∷ t ∷ ts) (t ∷ args)

-- [ argument { [","] argument } ], and the arguments among them
pub data IsArguments : List Terminal → List Terminal → Type 0 where
  no_argument : IsArguments [] []
  arguments : (t : Terminal) (ts args : List Terminal) → IsValue t → IsMore ts args → IsArguments (t ∷ ts) (t ∷ args)

-- the words that these tokens are
abbrev pub words_of : List ℕ → List Token → List Terminal → List (List ℕ)
words_of text tokens ts = map (λ t. word_at text tokens t.place) ts

-- word ":" value { value }
pub data IsList (text : List ℕ) (tokens : List Token) : List Terminal → Statement → Type 0 where
  list : (name colon value : Terminal) (values : List Terminal) → IsWord name → colon.kind ≡ COLON → IsValue value → AreValues values →
      IsList text tokens (name ∷ colon ∷ value ∷ values) (statement.Attribute (attr_with text tokens name.place (words_of text tokens (value ∷ values))))

mutual
  -- word "(" [ arguments ] ")" "{" contents "}" [";"]
  pub data IsGroup (text : List ℕ) (tokens : List Token) : List Terminal → Group → Type 0 where
    group : (name opening : Terminal) (between args : List Terminal) (close begin : Terminal) (inner : List Terminal) (ss : List Statement) (end : Terminal) (ending : List Terminal) →
        IsWord name → opening.kind ≡ OPEN → IsArguments between args → close.kind ≡ CLOSE →
        begin.kind ≡ BEGIN → IsContents text tokens inner ss → end.kind ≡ END → IsEnding ending →
        IsGroup text tokens (name ∷ opening ∷ (between ++ (close ∷ begin ∷ (inner ++ (end ∷ ending))))) (group_with text tokens name.place (words_of text tokens args) (contents_of ss))

  -- group | word ":" value { value } stop | word "(" [ arguments ] ")" [";"]
  pub data IsStatement (text : List ℕ) (tokens : List Token) : List Terminal → Statement → Type 0 where
    inner_group : (ts : List Terminal) (g : Group) → IsGroup text tokens ts g → IsStatement text tokens ts (statement.Group g)
    simple : (ts : List Terminal) (s : Statement) (stop : Terminal) → IsList text tokens ts s → IsStop stop → IsStatement text tokens (ts ++ (stop ∷ [])) s
    complex : (name opening : Terminal) (between args : List Terminal) (close : Terminal) (ending : List Terminal) →
        IsWord name → opening.kind ≡ OPEN → IsArguments between args → close.kind ≡ CLOSE → IsEnding ending →
        IsStatement text tokens (name ∷ opening ∷ (between ++ (close ∷ ending))) (statement.Attribute (attr_with text tokens name.place (words_of text tokens args)))

  -- { statement } directly before `}`, of which the last may be a list of values that nothing ends
  pub data IsContents (text : List ℕ) (tokens : List Token) : List Terminal → List Statement → Type 0 where
    nothing_more : IsContents text tokens [] []
    unended : (ts : List Terminal) (s : Statement) → IsList text tokens ts s → IsContents text tokens ts (s ∷ [])
    one_more : (ts us : List Terminal) (s : Statement) (ss : List Statement) → IsStatement text tokens ts s → IsContents text tokens us ss → IsContents text tokens (ts ++ us) (s ∷ ss)

-- the first word is `library`
abbrev pub BeginsWithLibrary : List Terminal → Type 0
BeginsWithLibrary [] = ⊥
BeginsWithLibrary (t ∷ ts) = t.kind ≡ LIBRARY

-- the text is the group, by the rules of the format: it is one group `library`
abbrev pub IsByFormat : List ℕ → Group → Type 0
IsByFormat text g =
    (tokens : List Token) × IsScanned Liberty text tokens × IsGroup text tokens (plain_of text tokens) g × BeginsWithLibrary (plain_of text tokens)
