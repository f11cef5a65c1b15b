mod RoleTexts
