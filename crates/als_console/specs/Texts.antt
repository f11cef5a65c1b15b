-- The texts of the page, and what each is.
use Rattle.std.specs.Prelude.{ℕ, List, codes}
use Rattle.als_console.specs.declared.page.TheConstants.{PAGE}
use Rattle.als_console.specs.declared.policy.TheConstants.{POLICY}
use Rattle.als_console.specs.declared.script.TheConstants.{SCRIPT}
use Rattle.als_console.specs.declared.style.TheConstants.{STYLE}
use Rattle.als_console.specs.declared.text.Text.{Text}
use Rattle.als_console.specs.declared.text.Text.TheVariants.{Page, Script, Style}

-- the bytes of a text: those that stand in the program, no more and no less
unfoldable pub text_of : Text → List ℕ
text_of Page = PAGE.now
text_of Script = SCRIPT.now
text_of Style = STYLE.now

-- what a text is
abbrev pub type_of : Text → List ℕ
type_of Page = codes "text/html; charset=utf-8"
type_of Script = codes "text/javascript; charset=utf-8"
type_of Style = codes "text/css; charset=utf-8"

-- what a browser may load for the page
unfoldable pub policy : List ℕ
policy = POLICY.now
