mod OneRequest
