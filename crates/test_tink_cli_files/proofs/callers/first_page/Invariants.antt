use Rattle.test_tink_cli_files.proofs.callers.first_page.Given as goal

abbrev pub ghosts-page_of : goal.ghosts-page_of
ghosts-page_of a = record { name = a.blank.name; parts = a.blank.parts }
