-- What paths ask for, worked by hand.
use Rattle.std.specs.Prelude.{◌≡◌, codes, refl}
use Rattle.als_console.specs.declared.text.Text.TheVariants.{Page, Script, Style}
use Rattle.als_http.specs.Asking.{asked_by, role_asked, slot_asked, read_asked, page_asked}
use Rattle.als_http.specs.declared.asked.Asked.TheVariants.{Value, Page as OnePage, Many, Status, Primary, Standby, Console, NoNumber, Nothing}

key_row : asked_by (codes "/keys/17/3") ≡ Value (record { page = 17; slot = 3 })
unfolding asked_by role_asked slot_asked
key_row = refl

past_row : asked_by (codes "/keys/4294967295/256") ≡ Value (record { page = 4294967295; slot = 255 })
unfolding asked_by role_asked slot_asked
past_row = refl

large_row : asked_by (codes "/keys/4294967296/0") ≡ NoNumber
unfolding asked_by role_asked slot_asked
large_row = refl

sign_row : asked_by (codes "/keys/+1/0") ≡ NoNumber
unfolding asked_by role_asked slot_asked
sign_row = refl

more_row : asked_by (codes "/keys/1/2/3") ≡ NoNumber
unfolding asked_by role_asked slot_asked
more_row = refl

page_row : asked_by (codes "/keys/1") ≡ OnePage 1
unfolding asked_by role_asked slot_asked
page_row = refl

no_page_row : asked_by (codes "/keys/") ≡ NoNumber
unfolding asked_by role_asked slot_asked
no_page_row = refl

read_row : asked_by (codes "/read") ≡ Many
unfolding asked_by role_asked read_asked
read_row = refl

reads_row : asked_by (codes "/reads") ≡ Nothing
unfolding asked_by role_asked read_asked page_asked
reads_row = refl

status_row : asked_by (codes "/status") ≡ Status
unfolding asked_by role_asked slot_asked
status_row = refl

slash_row : asked_by (codes "/status/") ≡ Nothing
unfolding asked_by role_asked slot_asked read_asked page_asked
slash_row = refl

root_row : asked_by (codes "/") ≡ Console Page
unfolding asked_by role_asked slot_asked read_asked page_asked
root_row = refl

script_row : asked_by (codes "/page.js") ≡ Console Script
unfolding asked_by role_asked slot_asked read_asked page_asked
script_row = refl

style_row : asked_by (codes "/page.css") ≡ Console Style
unfolding asked_by role_asked slot_asked read_asked page_asked
style_row = refl

index_row : asked_by (codes "/index.html") ≡ Nothing
unfolding asked_by role_asked slot_asked read_asked page_asked
index_row = refl

primary_row : asked_by (codes "/primary") ≡ Primary
unfolding asked_by role_asked
primary_row = refl

standby_row : asked_by (codes "/standby") ≡ Standby
unfolding asked_by role_asked
standby_row = refl

primaries_row : asked_by (codes "/primaries") ≡ Nothing
unfolding asked_by role_asked read_asked page_asked
primaries_row = refl
