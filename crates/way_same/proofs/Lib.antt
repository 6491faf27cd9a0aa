mod SameLaws
